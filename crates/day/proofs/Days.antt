-- Day d owns the stamps 96d to 96d + 95 and no other, and every stamp has a day from 0 to the last.
use Prim.Native.Nat.{ℕ, ◌+◌, ◌*◌, ◌≤◌, ◌<◌}
use mathlib.Core.Path.{◌≡◌, refl}
use native.Mathlib.Omega.{arith}
use Rattle.day.specs.Days.{day_of, last_day}

pub within_day : (s d : ℕ) → day_of s ≡ d → (96 * d ≤ s) × (s ≤ 96 * d + 95)
unfolding day_of
within_day s d e = omega arith

pub owns : (s d : ℕ) → 96 * d ≤ s → s ≤ 96 * d + 95 → day_of s ≡ d
unfolding day_of
owns s d l u = omega arith

pub in_season : (s : ℕ) → s < 65536 → day_of s ≤ last_day
unfolding day_of
in_season s h = omega arith

-- the last quarter hour before the first midnight, the one after it, and the last of the season
pub midnight : (day_of 95 ≡ 0) × (day_of 96 ≡ 1) × (day_of 65535 ≡ last_day)
unfolding day_of
midnight = (refl, refl, refl)
