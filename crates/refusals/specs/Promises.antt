-- What refuses the step that numbers ask for, and when a step is allowed.
use Rattle.std.specs.Prelude.{ℕ, ◌≡◌, cond, List}
use Rattle.std.proofs.Math.Option.{Option, none, some}
use Rattle.bank.specs.Layout.{Layout, words}
use Rattle.bank.specs.Fit.{Fit, fit}
use Rattle.bank.specs.Rules.{Holds}
use Rattle.refusals.specs.Step.{Step, Asked, asked}
use Rattle.refusals.specs.Refusals.{rules, refusal}

-- what refuses the step that is asked for, if one is
abbrev pub asked_refusal : Layout → List ℕ → Option Step → ℕ
asked_refusal L b none = 2
asked_refusal L b (some s) = refusal L (words L b) s

unfoldable pub refusal_of : Layout → List ℕ → Asked → ℕ
refusal_of L b x = cond (fit L b) (asked_refusal L b (asked x)) 1

-- what refuses a step, whoever asks for it
unfoldable pub step_refusal : Layout → List ℕ → Step → ℕ
step_refusal L b s = cond (fit L b) (refusal L (words L b) s) 1

-- a step that nothing refuses, as the facts that its writes rest on
pub record Allowed (L : Layout) (b : List ℕ) (s : Step) : Type 0 where
  pub sound : Fit L b
  pub free : Holds (rules L (words L b) s)

-- the promise, of the bank, the numbers and the answer
abbrev pub RefusalPromise : Layout → List ℕ → Asked → ℕ → Type 0
RefusalPromise L b x r = r ≡ refusal_of L b x
