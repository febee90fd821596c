-- The promise leaves no room: two endings that it allows for the same input are equal.
use Prim.Native.Nat.{ℕ}
use mathlib.Core.Path.{◌≡◌, refl, sym, ap, ◌∙◌}
use mathlib.Core.Bool.{Bool}
use mathlib.Core.List.{List}
use Rattle.bank.specs.Layout.{Layout}
use Rattle.std.specs.Prelude.{Result, Ok, Err}
use Rattle.numbers.specs.declared.Refusal.{Refusal}
use Rattle.numbers.specs.Numbers.{given}
use Rattle.numbers.proofs.OneAnswer.{one_result_by}
use Rattle.settler.specs.declared.Settled.{Settled}
use Rattle.settler.specs.Settling.{Ending, SettlePromise}
use Rattle.settler.specs.Answer.{settled_as, steps_answered, quiet_answered, SettleAnswer}

pub settle_determined : (L : Layout) (b : List ℕ) (budget : ℕ) {r s j k : ℕ} {p q : Bool} {c d : List ℕ}
    → SettlePromise L b budget r j p c → SettlePromise L b budget s k q d → (r ≡ s) × (j ≡ k) × (p ≡ q) × (c ≡ d)
settle_determined L b budget e f =
    let g = e ∙ sym f in (ap (λ o. o.refusal) g, ap (λ o. o.steps) g, ap (λ o. o.quiet) g, ap (λ o. o.bank) g)

-- what the code promises of its answer is what is promised of the answer's numbers
pub settle_promised : (L : Layout) (b : List ℕ) (budget : ℕ) (r : Result Settled Refusal) (c : List ℕ)
    → SettleAnswer L b budget r c → SettlePromise L b budget (given r) (steps_answered r) (quiet_answered r) c
settle_promised L b budget (Ok s) c p = p
settle_promised L b budget (Err r) c p = p

-- what an answer is read as tells the answer
ended_number : (r : Result Settled Refusal) (b : List ℕ) → (settled_as r b).refusal ≡ given r
ended_number (Ok s) b = refl
ended_number (Err r) b = refl

ended_bank : (r : Result Settled Refusal) (b : List ℕ) → (settled_as r b).bank ≡ b
ended_bank (Ok s) b = refl
ended_bank (Err r) b = refl

abbrev settled_of : Ending → Settled
settled_of e = record { steps = e.steps; quiet = e.quiet }

pub answer_determined : (L : Layout) (b : List ℕ) (budget : ℕ) {r s : Result Settled Refusal} {c d : List ℕ}
    → SettleAnswer L b budget r c → SettleAnswer L b budget s d → (r ≡ s) × (c ≡ d)
answer_determined L b budget {r} {s} {c} {d} e f =
    let g = e ∙ sym f in (
      one_result_by r s (sym (ended_number r c) ∙ ap (λ o. o.refusal) g ∙ ended_number s d)
          (λ x y i j. ap settled_of (sym (ap (λ a. settled_as a c) i) ∙ g ∙ ap (λ a. settled_as a d) j)),
      sym (ended_bank r c) ∙ ap (λ o. o.bank) g ∙ ended_bank s d,
    )
