-- At every turn the state of the whole file is the state from this place on. What falls is the bytes left.
use Prim.Native.Nat.{ℕ, ◌*◌, ◌-◌, ◌≤◌}
use mathlib.Core.Path.{◌≡◌}
use mathlib.Core.List.{List}
use lib.ListN.{length}
use Rattle.report.specs.Bench.{play_from}
use Rattle.report.proofs.play.Player.play.Given as goal

-- what holds when place i is reached; each record has six bytes or more and at most 65,535 steps
pub record Turn (s bank₀ bank : List ℕ) (i steps : ℕ) : Type 0 where
  pub inside : i ≤ length s
  pub counted : 6 * steps ≤ 65535 * i
  pub rest : play_from (length s) s 8 0 bank₀ ≡ play_from (length s) s i steps bank

abbrev pub invariant-loop-record : goal.invariant-loop-record
invariant-loop-record l = Turn l.s l.initial.self.bank l.self.bank l.i l.self.steps

abbrev pub decreases-loop-record : goal.decreases-loop-record
decreases-loop-record l = length l.s - l.i
