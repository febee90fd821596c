-- A step that nothing refuses is allowed, as the facts that its writes rest on; and a step that is known by its kind is
-- taken as the one that four numbers ask for.
use mathlib.Core.Path.{◌≡◌, refl, sym}
use mathlib.Core.Bool.{Bool, true, false, cond}
use mathlib.Core.List.{List}
use Prim.Native.Nat.{ℕ}
use native.Mathlib.Omega.{arith}
use borrow.Author.Tests.{ne_eqb}
use Rattle.bank.specs.Layout.{Layout, words}
use Rattle.bank.specs.Fit.{fit}
use Rattle.bank.proofs.Fitness.{fit_facts}
use Rattle.bank.proofs.Rules.{stop}
use Rattle.refusals.specs.Step.{Step, broadcast, send, receive, deliver, crash, detect, lose, Asked, ask}
use Rattle.refusals.specs.Refusals.{refusal}
use Rattle.refusals.specs.Promises.{Allowed, refusal_of, step_refusal}
use Rattle.refusals.proofs.StepRules.{free_step}
use Rattle.group.specs.Promises.{step_of, taken}

pub step_allowed : (L : Layout) (b : List ℕ) (s : Step) → 0 ≡ step_refusal L b s → Allowed L b s
unfolding step_refusal
step_allowed L b s e = go (fit L b) refl (sym e)
  where
    go : (t : Bool) → fit L b ≡ t → cond t (refusal L (words L b) s) 1 ≡ 0 → Allowed L b s
    go true f h = free_step L b s (fit_facts L b f) h
    go false f h = absurd (omega arith)

-- the numbers that ask for a step
abbrev pub asking : Step → Asked
asking (broadcast who s v) = ask 1 who s v
asking (send from to m) = ask 2 from to m
asking (receive i from m) = ask 3 i from m
asking (deliver i m) = ask 4 i m 0
asking (crash who) = ask 5 who 0 0
asking (detect i j) = ask 6 i j 0
asking (lose from to m) = ask 7 from to m

-- whoever asks for it, the step answers and writes the same
pub taken_as_asked : (L : Layout) (b : List ℕ) (s : Step) → taken L b s ≡ step_of L b (asking s)
unfolding taken step_of step_refusal refusal_of
taken_as_asked L b (broadcast who s v) = refl
taken_as_asked L b (send from to m) = refl
taken_as_asked L b (receive i from m) = refl
taken_as_asked L b (deliver i m) = refl
taken_as_asked L b (crash who) = refl
taken_as_asked L b (detect i j) = refl
taken_as_asked L b (lose from to m) = refl

-- where it is refused, it leaves the bank
pub refused_take_leaves : (L : Layout) (b : List ℕ) (s : Step) → ((taken L b s).refusal ≡ 0 → ⊥)
    → (taken L b s).bank ≡ b
unfolding taken
refused_take_leaves L b s h = stop _ (ne_eqb _ 0 h) refl
