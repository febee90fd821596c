-- Each promise leaves no room: two answers and banks that it allows for the same input are equal.
use Prim.Native.Nat.{ℕ}
use mathlib.Core.Path.{◌≡◌, sym, ap, ◌∙◌}
use mathlib.Core.Bool.{Bool}
use mathlib.Core.List.{List}
use Rattle.sets.proofs.Tests.{one_value}
use Rattle.bank.specs.Layout.{Layout}
use Rattle.bank.specs.Fit.{fit}
use Rattle.bank.specs.Opening.{Answer, answer, OpenPromise}

-- an answer and a bank that are one definition's value are determined by it
pub one_answer : {d : Answer} {r s : ℕ} {b c : List ℕ} → answer r b ≡ d → answer s c ≡ d → (r ≡ s) × (b ≡ c)
one_answer e f = let g = e ∙ sym f in (ap (λ a. a.refusal) g, ap (λ a. a.bank) g)

pub open_determined : (L : Layout) (b : List ℕ) (n k : ℕ) {r s : ℕ} {c d : List ℕ} → OpenPromise L b n k r c
    → OpenPromise L b n k s d → (r ≡ s) × (c ≡ d)
open_determined L b n k e f = one_answer e f

pub fit_determined : (L : Layout) (b : List ℕ) {t u : Bool} → t ≡ fit L b → u ≡ fit L b → t ≡ u
fit_determined L b e f = one_value e f
