-- Which day owns a stamp. A stamp counts quarter hours from the season's first midnight.
use Rattle.std.specs.Prelude.{ℕ, ◌/◌}

-- day d owns stamps 96d to 96d + 95, so each stamp has one day
unfoldable pub day_of : ℕ → ℕ
day_of stamp = stamp / 96

-- the last day: it ends at 65,535
abbrev pub last_day : ℕ
last_day = 682
