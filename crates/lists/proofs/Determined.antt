-- Each promise leaves no room: two answers and banks that it allows for the same input are equal.
use Prim.Native.Nat.{ℕ}
use mathlib.Core.Path.{◌≡◌, sym, ap, ◌∙◌}
use mathlib.Core.List.{List}
use Rattle.sets.proofs.Tests.{one_value}
use Rattle.bank.specs.Layout.{Layout}
use Rattle.lists.specs.Lists.{RunPromise}
use Rattle.lists.specs.Logs.{length_answered, LengthPromise, LogPromise}
use Rattle.std.specs.Prelude.{Result}
use Rattle.numbers.specs.declared.Refusal.{Refusal}
use Rattle.numbers.specs.Numbers.{given}
use Rattle.numbers.proofs.OneAnswer.{one_result_by}

pub run_determined : (L : Layout) (b steps : List ℕ) {n k r s : ℕ} {c d : List ℕ} → RunPromise L b steps n r c
    → RunPromise L b steps k s d
    → (n ≡ k) × (r ≡ s) × (c ≡ d)
run_determined L b steps e f =
    let g = e ∙ sym f in (ap (λ o. o.accepted) g, ap (λ o. o.refusal) g, ap (λ o. o.bank) g)

pub length_determined : (L : Layout) (b : List ℕ) (who : ℕ) {r s n k : ℕ} → LengthPromise L b who r n
    → LengthPromise L b who s k → (r ≡ s) × (n ≡ k)
length_determined L b who e f = (e.0 ∙ sym f.0, e.1 ∙ sym f.1)

pub log_determined : (L : Layout) (b : List ℕ) (who : ℕ) {c d : List ℕ} → LogPromise L b who c
    → LogPromise L b who d → c ≡ d
log_determined L b who e f = one_value e f

-- the code's answer, which carries the length where nothing refuses the question
pub length_answer_determined : (L : Layout) (b : List ℕ) (who : ℕ) {r s : Result ℕ Refusal}
    → LengthPromise L b who (given r) (length_answered r) → LengthPromise L b who (given s) (length_answered s) → r ≡ s
length_answer_determined L b who {r} {s} e f =
    one_result_by r s (e.0 ∙ sym f.0) (λ n k i j. sym (ap length_answered i) ∙ (e.1 ∙ sym f.1) ∙ ap length_answered j)
