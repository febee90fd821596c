-- logs_fit: the logs before i fit.
use Rattle.std.proofs.Common.{◌≡◌}
use mathlib.Core.Bool.{true}
use Rattle.sets.specs.Set.{every}
use Rattle.bank.specs.Layout.{layout, words}
use Rattle.bank.specs.Fit.{log_fits}
use Rattle.bank.proofs.unfit.logs_fit.Given as goal

abbrev pub invariant-loop-i : goal.invariant-loop-i
invariant-loop-i g l = every (log_fits (words (layout g.R.Room.room) l.bank)) l.i ≡ true
