-- The code's steps are the definitions' steps: each way and back is where one was.
use mathlib.Core.Path.{◌≡◌, refl, sym, ap, ◌∙◌}
use Rattle.refusals.specs.declared.step.Step.{Step as Taken}
use Rattle.refusals.specs.declared.step.Step.TheVariants.{Broadcast, Send, Receive, Deliver, Crash, Detect, Lose}
use Rattle.refusals.specs.Step.{Step, broadcast, send, receive, deliver, crash, detect, lose}
use Rattle.refusals.specs.Asking.{meant, coded}

pub meant_coded : (s : Step) → meant (coded s) ≡ s
meant_coded (broadcast who s v) = refl
meant_coded (send from to m) = refl
meant_coded (receive i from m) = refl
meant_coded (deliver i m) = refl
meant_coded (crash who) = refl
meant_coded (detect i j) = refl
meant_coded (lose from to m) = refl

pub coded_meant : (s : Taken) → coded (meant s) ≡ s
coded_meant (Broadcast who s v) = refl
coded_meant (Send from to m) = refl
coded_meant (Receive i from m) = refl
coded_meant (Deliver i m) = refl
coded_meant (Crash who) = refl
coded_meant (Detect i j) = refl
coded_meant (Lose from to m) = refl

pub one_meaning : (s t : Taken) → meant s ≡ meant t → s ≡ t
one_meaning s t e = sym (coded_meant s) ∙ ap coded e ∙ coded_meant t
