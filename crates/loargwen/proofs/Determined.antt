-- Each promise over bytes leaves no room: two answers and runs of bytes that it allows for the same input are equal.
use Prim.Native.Nat.{ℕ}
use mathlib.Core.Path.{◌≡◌, sym, ap, ◌∙◌}
use mathlib.Core.List.{List}
use Rattle.bank.proofs.Determined.{one_answer}
use Rattle.refusals.specs.Step.{Asked}
use Rattle.loargwen.specs.Face.{OpenBytes, StepBytes, SettleBytes, TallyBytes}

pub open_bytes_determined : (bytes : List ℕ) (n k : ℕ) {r s : ℕ} {c d : List ℕ} → OpenBytes bytes n k r c
    → OpenBytes bytes n k s d → (r ≡ s) × (c ≡ d)
open_bytes_determined bytes n k e f = one_answer e f

pub step-bytes_determined : (bytes : List ℕ) (x : Asked) {r s : ℕ} {c d : List ℕ}
    → StepBytes bytes x r c → StepBytes bytes x s d → (r ≡ s) × (c ≡ d)
step-bytes_determined bytes x e f = one_answer e f

pub settle-bytes_determined : (bytes : List ℕ) (budget : ℕ) {r s k l q p : ℕ} {c d : List ℕ}
    → SettleBytes bytes budget r k q c → SettleBytes bytes budget s l p d → (r ≡ s) × (k ≡ l) × (q ≡ p) × (c ≡ d)
settle-bytes_determined bytes budget e f =
    let g = e ∙ sym f in
    (ap (λ o. o.refusal) g, ap (λ o. o.steps) g, ap (λ o. o.quiet) g, ap (λ o. o.bytes) g)

pub tally-bytes_determined : (bytes : List ℕ) (who day : ℕ) {r s n k u v : ℕ} → TallyBytes bytes who day r n u
    → TallyBytes bytes who day s k v → (r ≡ s) × (n ≡ k) × (u ≡ v)
tally-bytes_determined bytes who day e f =
    let g = e ∙ sym f in
    (ap (λ o. o.refusal) g, ap (λ o. o.tally.count) g, ap (λ o. o.tally.sum) g)
