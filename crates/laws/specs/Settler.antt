-- The steps that the settler takes, the order that they come in, and what its answer says of them.
use Rattle.std.specs.Prelude.{ℕ, zero, suc, ◌+◌, ◌≤◌, ◌≡◌, true, false, List, [], ◌∷◌, length}
use Rattle.bank.specs.Layout.{Layout}
use Rattle.refusals.specs.Step.{Step, broadcast, send, receive, deliver, crash, detect, lose}
use Rattle.refusals.specs.Promises.{Allowed}
use Rattle.group.specs.Promises.{after}
use Rattle.settler.specs.Candidates.{next}
use Rattle.settler.specs.Settling.{Ending, on_next}
use Rattle.laws.specs.Runs.{Run, Ended, Settling}
use Rattle.laws.specs.Demand.{Finished, Alike}

-- from a bank, within a budget of d
unfoldable pub chosen : Layout → ℕ → List ℕ → List Step
chosen L zero b = []
chosen L (suc d) b = on_next (next L b) [] (λ s. s ∷ chosen L d (after L b s))

-- detects have turn 0, the steps of message m turn m + 1; kinds that do not settle have 0 too, and are never taken
abbrev pub turn : Step → ℕ
turn (broadcast who s v) = 0
turn (send from to m) = m + 1
turn (receive i from m) = m + 1
turn (deliver i m) = m + 1
turn (crash who) = 0
turn (detect i j) = 0
turn (lose from to m) = 0

-- the turns never fall, from j on; from 0 on: detects, then messages in rising order
abbrev pub InTurn : ℕ → List Step → Type 0
InTurn j [] = Unit {0}
InTurn j (e ∷ es) = (j ≤ turn e) × InTurn (turn e) es

-- what a settling from b within a budget of d answers, where the bank is an opened group's
pub record Tells (L : Layout) (b : List ℕ) (d : ℕ) (o : Ending) : Type 0 where
  pub accepted : o.refusal ≡ 0
  -- it takes settling steps and counts them, and a budget of as many takes the same
  pub taken : Run (Settling (Allowed L)) (after L) b (chosen L o.steps b) o.bank
  pub counted : length (chosen L o.steps b) ≡ o.steps
  pub within : o.steps ≤ d
  -- it says that no step is left just where none is; else its budget is spent
  pub quiet : o.quiet ≡ true → Ended (Settling (Allowed L)) o.bank
  pub ended : Ended (Settling (Allowed L)) o.bank → o.quiet ≡ true
  pub spent : o.quiet ≡ false → o.steps ≡ d
  -- then every finished order takes as many steps, and ends with the same but for the order inside the logs
  pub every_order : o.quiet ≡ true → (es : List Step) (x : List ℕ) → Finished L b es x
      → (o.steps ≡ length es) × Alike L o.bank x
