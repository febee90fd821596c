-- Each promise leaves no room: two answers that it allows for the same input are equal.
use Prim.Native.Nat.{ℕ}
use mathlib.Core.Path.{◌≡◌, sym, ap, ◌∙◌}
use mathlib.Core.Bool.{Bool}
use mathlib.Core.List.{List}
use mathlib.Core.Option.{none, some}
use Rattle.std.specs.Prelude.{Result, Ok, Err}
use Rattle.numbers.specs.declared.Refusal.{Refusal}
use Rattle.numbers.specs.Numbers.{given}
use Rattle.numbers.proofs.OneAnswer.{one_result_by}
use Rattle.sets.proofs.Tests.{one_value}
use Rattle.bank.specs.Layout.{Layout}
use Rattle.refusals.specs.declared.step.Step.{Step as Taken}
use Rattle.refusals.specs.Step.{Step, Asked, asked}
use Rattle.refusals.specs.Asking.{meant, Decodes, IsAsked}
use Rattle.refusals.specs.Delivery.{enough}
use Rattle.refusals.specs.Promises.{RefusalPromise}
use Rattle.refusals.proofs.SameSteps.{one_meaning}

pub refusal_determined : (L : Layout) (b : List ℕ) (x : Asked) {r s : ℕ} → RefusalPromise L b x r
    → RefusalPromise L b x s → r ≡ s
refusal_determined L b x e f = one_value e f

pub enough_determined : (k n trusted received : ℕ) {t u : Bool} → t ≡ enough k n trusted received
    → u ≡ enough k n trusted received → t ≡ u
enough_determined k n trusted received e f = one_value e f

pub allowed_determined : (L : Layout) (b : List ℕ) (x : Asked) {r s : Result Taken Refusal}
    → RefusalPromise L b x (given r) → IsAsked x r → RefusalPromise L b x (given s) → IsAsked x s → r ≡ s
allowed_determined L b x {r} {s} e p f q =
    one_result_by r s (one_value e f) (λ t u i j. one_meaning t u (same (sym (asked_for t i p) ∙ asked_for u j q)))
  where
    asked_for : {r : Result Taken Refusal} (t : Taken) → r ≡ Ok t → IsAsked x r → asked x ≡ some (meant t)
    asked_for t i p = rw i at p

    same : {s t : Step} → some s ≡ some t → s ≡ t
    same e = cc

pub decoded_determined : (x : Asked) {r s : Result Taken Refusal} → Decodes x r → Decodes x s → r ≡ s
decoded_determined x {r} {s} = go r s
  where
    same : {s t : Step} → some s ≡ some t → s ≡ t
    same e = cc

    none_is_some : {A : Type 0} {s : Step} → none ≡ some s → A
    none_is_some e = cc

    go : (r s : Result Taken Refusal) → Decodes x r → Decodes x s → r ≡ s
    go (Ok t) (Ok u) p q = ap Ok (one_meaning t u (same (sym p ∙ q)))
    go (Ok t) (Err e) p q = none_is_some (sym q.0 ∙ p)
    go (Err e) (Ok u) p q = none_is_some (sym p.0 ∙ q)
    go (Err e) (Err f) p q = ap Err (p.1 ∙ sym q.1)
