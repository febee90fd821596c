-- Laws for whoever calls run_steps: a list of records answers as its words do in the flat form, its promise leaves no
-- room for another answer, and 13, the number of a ragged list, is never its answer. They rest on the definitions and
-- on laws of `bank`, `refusals` and `lists`. The proof of run_steps does not use them, and they use nothing of it.
use mathlib.Core.Path.{◌≡◌, refl, sym, ap, ◌∙◌}
use mathlib.Core.Bool.{Bool, true, false, cond}
use mathlib.Core.List.{List, [], ◌∷◌}
use mathlib.Core.Option.{Option, none, some}
use Prim.Native.Nat.{ℕ, ◌+◌}
use native.Mathlib.Omega.{arith}
use lib.Dec.{eqb}
use Rattle.bank.specs.Layout.{Layout, paper, words}
use Rattle.bank.specs.Fit.{fit}
use Rattle.bank.proofs.Rules as Rules
use Rattle.refusals.specs.Step as Steps
use Rattle.refusals.specs.Step.{Asked}
use Rattle.refusals.specs.Refusals.{rules}
use Rattle.refusals.specs.Promises.{asked_refusal, refusal_of}
use Rattle.group.specs.Promises.{step_of}
use Rattle.lists.specs.Lists.{Outcome, outcome, run_from, run_of, RunPromise}
use Rattle.lists.proofs.Determined.{run_determined}
use Rattle.refusals.proofs.StepRules.{rules_numbered}
use Rattle.lists.proofs.StepByStep.{run_unfit}
use Rattle.step_records.specs.Records.{flat, StepsPromise}
use Rattle.step_records.proofs.ByRecord.{asked_by, records_begin}

-- on the same steps both forms give the same number of accepted steps, the same refusal and the same bank
pub same_as_flat : (b : List ℕ) (ss : List Asked) (n k r s : ℕ) (c d : List ℕ) → StepsPromise b ss n r c
    → RunPromise paper b (flat ss) k s d → (n ≡ k) × (r ≡ s) × (c ≡ d)
same_as_flat b ss n k r s c d e f = run_determined paper b (flat ss) e f

pub steps_determined : (b : List ℕ) (ss : List Asked) (n k r s : ℕ) (c d : List ℕ) → StepsPromise b ss n r c
    → StepsPromise b ss k s d → (n ≡ k) × (r ≡ s) × (c ≡ d)
steps_determined b ss n k r s c d e f = run_determined paper b (flat ss) e f

abbrev NotRagged : ℕ → Type 0
NotRagged r = r ≡ 13 → ⊥

either : (t : Bool) (o p : Outcome) → NotRagged o.refusal → NotRagged p.refusal → NotRagged (cond t o p).refusal
either true o p h k = h
either false o p h k = k

module _ (L : Layout) where
  step_not_ragged : (b : List ℕ) (x : Steps.Asked) → NotRagged (refusal_of L b x)
  unfolding refusal_of
  step_not_ragged b x = go (fit L b) (Steps.asked x)
    where
      go : (t : Bool) (o : Option Steps.Step) → NotRagged (cond t (asked_refusal L b o) 1)
      go true (some s) = Rules.never_ragged (rules L (words L b) s) (rules_numbered L b s)
      go true none = omega arith
      go false o = omega arith

  run_not_ragged : (n : ℕ) (b : List ℕ) (ss : List Asked) → NotRagged (run_from L n b (flat ss)).refusal
  unfolding flat run_from
  run_not_ragged n b [] = omega arith
  run_not_ragged n b (s ∷ ss) =
      let r = refusal_of L b (asked_by s) in
      let after = (step_of L b (asked_by s)).bank in
      either (eqb r 0) (run_from L (n + 1) after (flat ss)) (outcome n r b) (run_not_ragged (n + 1) after ss)
      (step_not_ragged b (asked_by s))

-- 13 does not arise: a record is whole, and no step is refused by that number
pub never_ragged : (b : List ℕ) (ss : List Asked) (n r : ℕ) (c : List ℕ) → StepsPromise b ss n r c → r ≡ 13 → ⊥
never_ragged b ss n r c e q = by_fitness (fit paper b) refl (sym (ap (λ o. o.refusal) e) ∙ q)
  where
    by_fitness : (t : Bool) → fit paper b ≡ t → NotRagged (run_of paper b (flat ss)).refusal
    by_fitness true f = rw (records_begin paper b ss f) (run_not_ragged paper 0 b ss)
    by_fitness false f = rw (run_unfit paper b (flat ss) f) (omega arith)
