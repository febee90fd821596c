-- Each promise leaves no room: two answers that it allows for the same input are equal.
use Prim.Native.Nat.{ℕ}
use mathlib.Core.Path.{◌≡◌, refl, sym, ap, ◌∙◌}
use mathlib.Core.List.{List}
use Rattle.std.specs.Prelude.{Result, Ok, Err}
use Rattle.numbers.specs.declared.Refusal.{Refusal}
use Rattle.numbers.specs.Numbers.{given}
use Rattle.numbers.proofs.OneAnswer.{one_result_by}
use Rattle.day.specs.Answer.{tally_answered, count_answered, sum_answered, TallyAnswer}
use Rattle.bank.specs.Layout.{Layout}
use Rattle.day.specs.Tallies.{TallyPromise}
use Rattle.day.specs.declared.entries.Tally.{Tally}

pub tally_determined : (L : Layout) (b : List ℕ) (who day : ℕ) {r s n k x y : ℕ} → TallyPromise L b who day r n x
    → TallyPromise L b who day s k y → (r ≡ s) × (n ≡ k) × (x ≡ y)
tally_determined L b who day e f =
    let g = e ∙ sym f in (ap (λ a. a.refusal) g, ap (λ a. a.tally.count) g, ap (λ a. a.tally.sum) g)

-- a fresh tally and one with an entry more are each promised by an equation with a definition's value
pub one-tally : {t u v : Tally} → u ≡ t → v ≡ t → u ≡ v
one-tally e f = e ∙ sym f

-- what the code promises of its answer is what is promised of the answer's numbers
pub tally_promised : (L : Layout) (b : List ℕ) (who day : ℕ) (r : Result Tally Refusal) → TallyAnswer L b who day r
    → TallyPromise L b who day (given r) (count_answered r) (sum_answered r)
tally_promised L b who day (Ok t) p = p
tally_promised L b who day (Err r) p = p

-- what an answer is read as tells the answer
number_read : (r : Result Tally Refusal) → (tally_answered r).refusal ≡ given r
number_read (Ok t) = refl
number_read (Err r) = refl

pub answer_determined : (L : Layout) (b : List ℕ) (who day : ℕ) {r s : Result Tally Refusal}
    → TallyAnswer L b who day r → TallyAnswer L b who day s → r ≡ s
answer_determined L b who day {r} {s} e f =
    let g = e ∙ sym f in
    one_result_by r s (sym (number_read r) ∙ ap (λ a. a.refusal) g ∙ number_read s)
    (λ t u i j. ap (λ a. a.tally) (sym (ap tally_answered i) ∙ g ∙ ap tally_answered j))
