-- Which number stands for what: the refusals, the kinds of step, the modes.
use Rattle.std.specs.Prelude.{ℕ, Bool, Result, Ok, Err, cond, eqb}
use Rattle.numbers.specs.declared.Kind.{Kind}
use Rattle.numbers.specs.declared.Kind.TheVariants.{Broadcast, Send, Receive, Deliver, Crash, Detect, Lose}
use Rattle.numbers.specs.declared.Mode.{Mode}
use Rattle.numbers.specs.declared.Mode.TheVariants.{AllAck, Majority}
use Rattle.numbers.specs.declared.Refusal.{Refusal}
use Rattle.numbers.specs.declared.Refusal.TheVariants.{Unfit, NoStep, NoController, NoMessage, NoDetection, ActorDown}
use Rattle.numbers.specs.declared.Refusal.TheVariants.{MessagesFull, NoCopy, NotYet, Already, BadSize, BadMode}
use Rattle.numbers.specs.declared.Refusal.TheVariants.{BadRecord, BadDay}

-- the number of each refusal
abbrev pub number : Refusal → ℕ
number Unfit = 1
number NoStep = 2
number NoController = 3
number NoMessage = 4
number NoDetection = 5
number ActorDown = 6
number MessagesFull = 7
number NoCopy = 8
number NotYet = 9
number Already = 10
number BadSize = 11
number BadMode = 12
number BadRecord = 13
number BadDay = 14

-- the number given back: 0 where nothing refuses the call
abbrev pub given : {A : Type 0} → Result A Refusal → ℕ
given (Ok a) = 0
given (Err r) = number r

-- refused unless a test holds
abbrev pub unless : Refusal → Bool → Result (Unit {0}) Refusal
unless r holds = cond holds (Ok tt) (Err r)

-- the number of each kind of step
abbrev pub kind_number : Kind → ℕ
kind_number Broadcast = 1
kind_number Send = 2
kind_number Receive = 3
kind_number Deliver = 4
kind_number Crash = 5
kind_number Detect = 6
kind_number Lose = 7

-- the kind of step that a number stands for
abbrev pub kind_of : ℕ → Result Kind Refusal
kind_of k =
    cond (eqb k 1) (Ok Broadcast)
    (cond (eqb k 2) (Ok Send)
    (cond (eqb k 3) (Ok Receive)
    (cond (eqb k 4) (Ok Deliver)
    (cond (eqb k 5) (Ok Crash)
    (cond (eqb k 6) (Ok Detect)
    (cond (eqb k 7) (Ok Lose) (Err NoStep)))))))

-- the mode that a number stands for
abbrev pub mode_of : ℕ → Result Mode Refusal
mode_of k = cond (eqb k 1) (Ok AllAck) (cond (eqb k 2) (Ok Majority) (Err BadMode))
