-- What holds of either size of bank: by cases, so that it is plain arithmetic.
use mathlib.Core.Bool.{Bool, true, false}
use Prim.Native.Nat.{ℕ, ◌≤◌}
use native.Mathlib.Omega.{arith}
use Rattle.bank.specs.Layout.{paper, layout, record_at}

-- no more controllers than a word has bits
pub few : (z : Bool) → (layout z).controllers ≤ 16
few false = omega arith
few true = omega arith

-- no more messages than the paper's bank has
pub short : (z : Bool) → (layout z).messages ≤ 32
short false = omega arith
short true = omega arith

-- no record begins later than in the paper's bank
pub no_later : (z : Bool) (m : ℕ) → record_at (layout z) m ≤ record_at paper m
no_later false m = omega arith
no_later true m = omega arith
