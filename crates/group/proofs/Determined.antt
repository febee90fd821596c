-- The promise leaves no room: two answers and banks that it allows for the same input are equal.
use Prim.Native.Nat.{ℕ}
use mathlib.Core.Path.{◌≡◌}
use mathlib.Core.List.{List}
use Rattle.bank.specs.Layout.{Layout}
use Rattle.bank.proofs.Determined.{one_answer}
use Rattle.refusals.specs.Step.{Asked, Step}
use Rattle.group.specs.Promises.{StepPromise, TakePromise}

pub step_determined : (L : Layout) (b : List ℕ) (x : Asked) {r s : ℕ} {c d : List ℕ} → StepPromise L b x r c
    → StepPromise L b x s d → (r ≡ s) × (c ≡ d)
step_determined L b x e f = one_answer e f

pub take_determined : (L : Layout) (b : List ℕ) (s : Step) {r q : ℕ} {c d : List ℕ} → TakePromise L b s r c
    → TakePromise L b s q d → (r ≡ q) × (c ≡ d)
take_determined L b s e f = one_answer e f
