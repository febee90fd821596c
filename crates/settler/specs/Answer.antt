-- The settler's answer in the paper's numbers: 0 or 1, the steps taken, and whether no step is left.
use Rattle.std.specs.Prelude.{ℕ, ◌≡◌, Bool, false, List, Result, Ok, Err}
use Rattle.bank.specs.Layout.{Layout}
use Rattle.numbers.specs.declared.Refusal.{Refusal}
use Rattle.numbers.specs.Numbers.{number}
use Rattle.settler.specs.declared.Settled.{Settled}
use Rattle.settler.specs.Settling.{Ending, ending, settle_of}

-- the steps that are answered, and whether none is left: 0 and no where the call is refused
abbrev pub steps_answered : Result Settled Refusal → ℕ
steps_answered (Ok s) = s.steps
steps_answered (Err r) = 0

abbrev pub quiet_answered : Result Settled Refusal → Bool
quiet_answered (Ok s) = s.quiet
quiet_answered (Err r) = false

abbrev pub settled_as : Result Settled Refusal → List ℕ → Ending
settled_as (Ok s) b = ending 0 s.steps s.quiet b
settled_as (Err r) b = ending (number r) 0 false b

abbrev pub SettleAnswer : Layout → List ℕ → ℕ → Result Settled Refusal → List ℕ → Type 0
SettleAnswer L b budget r b' = settled_as r b' ≡ settle_of L b budget
