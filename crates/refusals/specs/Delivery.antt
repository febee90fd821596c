-- Delivery: the test of each mode, and what refuses a delivery. Step and settler both go by it.
use Rattle.std.specs.Prelude.{ℕ, ◌*◌, Bool, cond, not, List, [], ◌∷◌, eqb, ltb}
use Rattle.sets.specs.Set.{within, count_below}
use Rattle.bank.specs.Place.{Words, N, mode, count, view, log_length, message, acked}
use Rattle.bank.specs.Fit.{all_ack}
use Rattle.bank.specs.Rules.{Rule, ◌else◌}
use Rattle.refusals.specs.State.{is_controller, is_message, is_up, holding, has_delivered}

-- the delivery test of a mode, among n controllers: whom this one takes to be up, from whom it has received the message
unfoldable pub enough : ℕ → ℕ → ℕ → ℕ → Bool
enough k n trusted received =
    cond (eqb k all_ack) (within trusted received n) (ltb n (2 * count_below received n))

abbrev pub may_deliver : Words → ℕ → ℕ → Bool
may_deliver w i m = enough (w mode) (w N) (w (view i)) (w (message m (acked i)))

-- the tests of a delivery, in their order; the last is the paper's one exception
abbrev pub deliver_rules : Words → ℕ → ℕ → List Rule
deliver_rules w i m =
    is_controller w i else 3
    ∷ is_message w m else 4
    ∷ is_up w i else 6
    ∷ holding w i m else 8
    ∷ may_deliver w i m else 9
    ∷ not (has_delivered w i m) else 10
    ∷ ltb (w (log_length i)) (w count) else 1
    ∷ []
