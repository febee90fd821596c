-- A season is day 0 to the last: over them the tallies of a log add up to the whole log.
use Rattle.std.specs.Prelude.{ℕ, ◌+◌, ◌<◌, ◌≡◌, Bool, List, [], ◌∷◌, get_or}
use Rattle.bank.specs.Place.{message, value}
use Rattle.bank.specs.Layout.{layout, words, up_from}
use Rattle.lists.specs.Logs.{used_length, log_of}
use Rattle.day.specs.Days.{last_day}
use Rattle.day.specs.Tallies.{tally_refusal, tally_of}

-- a number for each element, added up
unfoldable pub sum_over : (ℕ → ℕ) → List ℕ → ℕ
sum_over f [] = 0
sum_over f (x ∷ xs) = f x + sum_over f xs

unfoldable pub season : List ℕ
season = up_from 0 (last_day + 1)

-- what a slice of u16 holds
abbrev pub AreWords : List ℕ → Type 0
AreWords b = (i : ℕ) → get_or b i 0 < 65536

-- in a bank of either size, where the tally is not refused, each entry is counted on exactly one day of the season
abbrev pub SeasonAddsUp : Type 0
SeasonAddsUp =
    (room : Bool) (b : List ℕ) (who day : ℕ)
    → let L = layout room in
    AreWords b
    → tally_refusal L b who day ≡ 0
    → (sum_over (λ d. (tally_of L b who d).tally.count) season ≡ used_length L b who)
    × (sum_over (λ d. (tally_of L b who d).tally.sum) season
    ≡ sum_over (λ m. words L b (message m value)) (log_of L b who))
