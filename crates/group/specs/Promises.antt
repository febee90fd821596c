-- What the public calls promise, each for all inputs: one equation that fixes the answer and every word lent.
use Rattle.std.specs.Prelude.{ℕ, ◌≡◌, cond, List, eqb}
use Rattle.std.proofs.Math.Option.{Option, none, some}
use Rattle.bank.specs.Layout.{Layout, address, words, puts}
use Rattle.bank.specs.Opening.{Answer, answer}
use Rattle.refusals.specs.Step.{Step, Asked, asked}
use Rattle.refusals.specs.Promises.{refusal_of, step_refusal}
use Rattle.group.specs.Writes.{writes}

-- the bank with a step's writes
abbrev pub after : Layout → List ℕ → Step → List ℕ
after L b s = puts (address L) b (writes L (words L b) s)

-- and of the step that is asked for, if one is
abbrev pub asked_after : Layout → List ℕ → Option Step → List ℕ
asked_after L b none = b
asked_after L b (some s) = after L b s

-- one step: its refusal, and the bank with its writes where nothing refuses it
unfoldable pub step_of : Layout → List ℕ → Asked → Answer
step_of L b x =
    answer (refusal_of L b x)
    (cond (eqb (refusal_of L b x) 0) (asked_after L b (asked x)) b)

-- the promise, of the bank before, the numbers, the answer and the bank afterwards
abbrev pub StepPromise : Layout → List ℕ → Asked → ℕ → List ℕ → Type 0
StepPromise L b x r b' = answer r b' ≡ step_of L b x

-- a step that is taken, whoever asks for it
unfoldable pub taken : Layout → List ℕ → Step → Answer
taken L b s = answer (step_refusal L b s) (cond (eqb (step_refusal L b s) 0) (after L b s) b)

abbrev pub TakePromise : Layout → List ℕ → Step → ℕ → List ℕ → Type 0
TakePromise L b s r b' = answer r b' ≡ taken L b s
