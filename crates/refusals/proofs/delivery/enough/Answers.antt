-- enough: a count of members is at most n, so that its double fits.
use Rattle.std.proofs.Common.{◌≡◌, ℕ, ◌≤◌}
use native.Mathlib.Omega.{arith}
use Rattle.sets.specs.Set.{has, count_below}
use Rattle.sets.proofs.Counts.{how_many_le}
use Rattle.refusals.proofs.delivery.enough.Goals as goal

few : (w n r : ℕ) → r ≡ count_below w n → r ≤ n
unfolding count_below
few w n r e = omega (arith, how_many_le (has w) n)

pub overflow_mul-result : goal.overflow_mul-result
overflow_mul-result c = let h = few _ _ _ c.count_below.ensures in omega arith
