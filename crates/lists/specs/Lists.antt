-- A list of steps, four words a step, applied in order up to the first refusal.
use Rattle.std.specs.Prelude.{ℕ, ◌+◌, ◌%◌, ◌≡◌, cond, List, [], ◌∷◌, eqb, length}
use Rattle.bank.specs.Layout.{Layout}
use Rattle.bank.specs.Fit.{fit}
use Rattle.refusals.specs.Step.{ask}
use Rattle.refusals.specs.Promises.{refusal_of}
use Rattle.group.specs.Promises.{step_of}

-- how many steps were accepted, the refusal that ended the list or 0, and the bank afterwards
pub record Outcome : Type 0 where
  pub accepted : ℕ
  pub refusal : ℕ
  pub bank : List ℕ

abbrev pub outcome : ℕ → ℕ → List ℕ → Outcome
outcome n r b = record { accepted = n; refusal = r; bank = b }

-- from n accepted steps on; words that make no whole step are never reached, since the list's length is tested first
unfoldable pub run_from : Layout → ℕ → List ℕ → List ℕ → Outcome
run_from L n b (kind ∷ x ∷ y ∷ z ∷ rest) =
    let more = run_from L (n + 1) (step_of L b (ask kind x y z)).bank rest in
    cond (eqb (refusal_of L b (ask kind x y z)) 0) more (outcome n (refusal_of L b (ask kind x y z)) b)
run_from L n b [] = outcome n 0 b
run_from L n b (kind ∷ []) = outcome n 0 b
run_from L n b (kind ∷ x ∷ []) = outcome n 0 b
run_from L n b (kind ∷ x ∷ y ∷ []) = outcome n 0 b

unfoldable pub run_of : Layout → List ℕ → List ℕ → Outcome
run_of L b steps =
    cond (fit L b) (cond (eqb (length steps % 4) 0) (run_from L 0 b steps) (outcome 0 13 b)) (outcome 0 1 b)

abbrev pub RunPromise : Layout → List ℕ → List ℕ → ℕ → ℕ → List ℕ → Type 0
RunPromise L b steps n r b' = outcome n r b' ≡ run_of L b steps
