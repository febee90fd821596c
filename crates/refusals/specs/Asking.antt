-- The code's steps are the definitions' steps, each way, and four numbers ask for the same ones.
use Rattle.std.specs.Prelude.{◌≡◌, Result, IfOk, MatchResult}
use Rattle.std.proofs.Math.Option.{none, some}
use Rattle.numbers.specs.declared.Asked.{Asked}
use Rattle.numbers.specs.declared.Refusal.{Refusal}
use Rattle.numbers.specs.declared.Refusal.TheVariants.{NoStep}
use Rattle.refusals.specs.declared.step.Step.{Step as Taken}
use Rattle.refusals.specs.declared.step.Step.TheVariants.{Broadcast, Send, Receive, Deliver, Crash, Detect, Lose}
use Rattle.refusals.specs.Step.{Step, broadcast, send, receive, deliver, crash, detect, lose, asked}

abbrev pub meant : Taken → Step
meant (Broadcast who s v) = broadcast who s v
meant (Send from to m) = send from to m
meant (Receive i from m) = receive i from m
meant (Deliver i m) = deliver i m
meant (Crash who) = crash who
meant (Detect i j) = detect i j
meant (Lose from to m) = lose from to m

abbrev pub coded : Step → Taken
coded (broadcast who s v) = Broadcast who s v
coded (send from to m) = Send from to m
coded (receive i from m) = Receive i from m
coded (deliver i m) = Deliver i m
coded (crash who) = Crash who
coded (detect i j) = Detect i j
coded (lose from to m) = Lose from to m

-- the step that is asked for, or that none is
abbrev pub Decodes : Asked → Result Taken Refusal → Type 0
Decodes x r = MatchResult r (λ s. asked x ≡ some (meant s)) (λ e. (asked x ≡ none) × (e ≡ NoStep))

-- where the answer is a step, it is the one that is asked for
abbrev pub IsAsked : Asked → Result Taken Refusal → Type 0
IsAsked x r = IfOk r (λ s. asked x ≡ some (meant s))
