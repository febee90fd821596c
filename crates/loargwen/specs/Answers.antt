-- The answers of several numbers, as C programs have them.
use Rattle.std.specs.Prelude.{Result, Ok, Err}
use Rattle.numbers.specs.declared.Refusal.{Refusal}
use Rattle.numbers.specs.Numbers.{number}
use Rattle.settler.specs.declared.Settled.{Settled as Quieted}
use Rattle.day.specs.declared.entries.Tally.{Tally}
use Rattle.loargwen.specs.declared.answers.Settled.{Settled}
use Rattle.loargwen.specs.declared.answers.Day.{Day}
use Rattle.loargwen.specs.Face.{flag}

abbrev pub settled_numbers : Result Quieted Refusal → Settled
settled_numbers (Ok s) = record { refusal = 0; steps = s.steps; quiet = flag s.quiet }
settled_numbers (Err r) = record { refusal = number r; steps = 0; quiet = 0 }

abbrev pub day_numbers : Result Tally Refusal → Day
day_numbers (Ok t) = record { refusal = 0; count = t.count; sum = t.sum }
day_numbers (Err r) = record { refusal = number r; count = 0; sum = 0 }
