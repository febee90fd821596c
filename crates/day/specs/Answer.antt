-- The tally's answer in the paper's numbers: the refusal, and the tally, which is empty where the question is refused.
use Rattle.std.specs.Prelude.{ℕ, ◌≡◌, List, Result, Ok, Err}
use Rattle.numbers.specs.declared.Refusal.{Refusal}
use Rattle.numbers.specs.Numbers.{number}
use Rattle.bank.specs.Layout.{Layout}
use Rattle.day.specs.declared.entries.Tally.{Tally}
use Rattle.day.specs.Tallies.{DayAnswer, day_answer, empty, tally_of}

-- the count and the sum that are answered: 0 where the question is refused
abbrev pub count_answered : Result Tally Refusal → ℕ
count_answered (Ok t) = t.count
count_answered (Err r) = 0

abbrev pub sum_answered : Result Tally Refusal → ℕ
sum_answered (Ok t) = t.sum
sum_answered (Err r) = 0

abbrev pub tally_answered : Result Tally Refusal → DayAnswer
tally_answered (Ok t) = day_answer 0 t
tally_answered (Err r) = day_answer (number r) empty

abbrev pub TallyAnswer : Layout → List ℕ → ℕ → ℕ → Result Tally Refusal → Type 0
TallyAnswer L b who day r = tally_answered r ≡ tally_of L b who day
