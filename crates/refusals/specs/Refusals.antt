-- What refuses each step, as the paper's table of numbers has it: the tests in the order in which they are made.
use Rattle.std.specs.Prelude.{ℕ, not, ◌&&◌, List, [], ◌∷◌, ◌++◌, eqb, ltb}
use Rattle.bank.specs.Place.{Words, mode, count}
use Rattle.bank.specs.Layout.{Layout}
use Rattle.bank.specs.Fit.{all_ack}
use Rattle.bank.specs.Rules.{Rule, ◌else◌, first_broken}
use Rattle.refusals.specs.State.{is_controller, is_message, is_up, takes_up, must_send, flying}
use Rattle.refusals.specs.Step.{Step, broadcast, send, receive, deliver, crash, detect, lose}
use Rattle.refusals.specs.Delivery.{deliver_rules}

-- the tests that several kinds begin with: a controller that acts; two controllers and a message
abbrev pub actor : Words → ℕ → List Rule
actor w i = is_controller w i else 3 ∷ is_up w i else 6 ∷ []

abbrev pub ends : Words → ℕ → ℕ → ℕ → List Rule
ends w i j m = is_controller w i else 3 ∷ is_controller w j else 3 ∷ is_message w m else 4 ∷ []

abbrev pub rules : Layout → Words → Step → List Rule
rules L w (broadcast who s v) = actor w who ++ (ltb (w count) L.messages else 7 ∷ [])
rules L w (send from to m) = ends w from to m ++ (is_up w from else 6 ∷ must_send w from to m else 8 ∷ [])
rules L w (receive i from m) = ends w i from m ++ (is_up w i else 6 ∷ flying w from i m else 8 ∷ [])
rules L w (deliver i m) = deliver_rules w i m
rules L w (crash who) = actor w who
rules L w (detect i j) =
    is_controller w i else 3
    ∷ is_controller w j else 3
    ∷ eqb (w mode) all_ack else 5
    ∷ is_up w i else 6
    ∷ not (is_up w j) else 9
    ∷ takes_up w i j else 10
    ∷ []
rules L w (lose from to m) =
    ends w from to m ++ (flying w from to m else 8 ∷ not (is_up w from && is_up w to) else 9 ∷ [])

-- what refuses a step in a fit bank, or 0
abbrev pub refusal : Layout → Words → Step → ℕ
refusal L w s = first_broken (rules L w s)
