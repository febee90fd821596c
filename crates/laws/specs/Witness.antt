-- Demand 3 speaks of something: the logs of the worked example follow from it and a few steps that bring one controller
-- to deliver, in both modes and by whatever order; and its quorum is needed, since without one two controllers that are
-- up may keep different logs.
use Rattle.std.specs.Prelude.{ℕ, ◌≡◌, true, List, [], ◌∷◌}
use Rattle.bank.specs.Layout.{paper, words}
use Rattle.bank.specs.Opening.{opened}
use Rattle.refusals.specs.Step.{Step}
use Rattle.refusals.specs.State.{is_up}
use Rattle.lists.specs.Lists.{Outcome, run_of}
use Rattle.lists.specs.Logs.{log_of}
use Rattle.settler.specs.Settling.{Ending, settle_of}
use Rattle.laws.specs.Demand.{Reached, Finished, Quorum}
use Rattle.laws.specs.Calls.{asks_first}
use Rattle.laws.specs.Table.{half_sent}

-- the steps that the table's first two rows ask for
abbrev pub worked_steps : List Step
worked_steps = asks_first 4 half_sent

-- they are accepted; then every order that is finished leaves message 0, and nothing else, in the logs of 1 and of 2
pub record WorkedLogs (k : ℕ) : Type 0 where
  pub accepted : Reached paper 3 k worked_steps (run_of paper (opened paper 3 k) half_sent).bank
  pub logs : (b x : List ℕ) (es : List Step) → Reached paper 3 k worked_steps b → Finished paper b es x
      → (log_of paper x 1 ≡ 0 ∷ []) × (log_of paper x 2 ≡ 0 ∷ [])

-- four controllers in majority mode: 0 delivers on the acknowledgements of 0, 1 and 2, and 1 and 2 crash
abbrev parted : List ℕ
parted =
    1 ∷ 0 ∷ 0 ∷ 7
    ∷ 2 ∷ 0 ∷ 0 ∷ 0 ∷ 3 ∷ 0 ∷ 0 ∷ 0
    ∷ 2 ∷ 0 ∷ 1 ∷ 0 ∷ 3 ∷ 1 ∷ 0 ∷ 0 ∷ 2 ∷ 1 ∷ 0 ∷ 0 ∷ 3 ∷ 0 ∷ 1 ∷ 0
    ∷ 2 ∷ 0 ∷ 2 ∷ 0 ∷ 3 ∷ 2 ∷ 0 ∷ 0 ∷ 2 ∷ 2 ∷ 0 ∷ 0 ∷ 3 ∷ 0 ∷ 2 ∷ 0
    ∷ 4 ∷ 0 ∷ 0 ∷ 0 ∷ 5 ∷ 1 ∷ 0 ∷ 0 ∷ 5 ∷ 2 ∷ 0 ∷ 0 ∷ []

unfoldable pub parted_run : Outcome
parted_run = run_of paper (opened paper 4 2) parted

unfoldable pub parted_end : Ending
parted_end = settle_of paper parted_run.bank 100

-- settled, 0 and 3 are up, 0 has the message in its log and 3 has not: two of four up are no quorum
pub record QuorumNeeded : Type 0 where
  pub accepted : parted_run.refusal ≡ 0
  pub quiet : parted_end.quiet ≡ true
  pub up : (is_up (words paper parted_end.bank) 0 ≡ true) × (is_up (words paper parted_end.bank) 3 ≡ true)
  pub logs : (log_of paper parted_end.bank 0 ≡ 0 ∷ []) × (log_of paper parted_end.bank 3 ≡ [])
  pub none : Quorum paper parted_end.bank → ⊥
