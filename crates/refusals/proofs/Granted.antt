-- What an allowed step's rules grant, each fact by its name: the order of a list of rules is known here, and besides
-- only that a delivery's last rule is the seventh (laws, proofs/Unrefused).
use mathlib.Core.Path.{◌≡◌}
use mathlib.Core.Bool.{true, not, ◌&&◌}
use Prim.Native.Nat.{ℕ}
use lib.Dec.{eqb, ltb}
use lib.ListN.{take}
use Rattle.bank.specs.Place.{Words, mode, count, log_length}
use Rattle.bank.specs.Layout.{Layout}
use Rattle.bank.specs.Fit.{all_ack}
use Rattle.bank.specs.Rules.{Holds}
use Rattle.refusals.specs.State.{is_controller, is_message, is_up, takes_up, holding, has_delivered, must_send, flying}
use Rattle.refusals.specs.Step.{broadcast, send, receive, deliver, crash, detect, lose}
use Rattle.refusals.specs.Delivery.{may_deliver}
use Rattle.refusals.specs.Refusals.{rules}

pub record Broadcasts (L : Layout) (w : Words) (who : ℕ) : Type 0 where
  pub there : is_controller w who ≡ true
  pub up : is_up w who ≡ true
  pub room : ltb (w count) L.messages ≡ true

-- both ends of a copy of message m, and the message
pub record Ends (w : Words) (i j m : ℕ) : Type 0 where
  pub first : is_controller w i ≡ true
  pub second : is_controller w j ≡ true
  pub given : is_message w m ≡ true

pub record Sends (w : Words) (from to m : ℕ) : Type 0 where
  pub ends : Ends w from to m
  pub up : is_up w from ≡ true
  pub owed : must_send w from to m ≡ true

pub record Receives (w : Words) (i from m : ℕ) : Type 0 where
  pub ends : Ends w i from m
  pub up : is_up w i ≡ true
  pub flies : flying w from i m ≡ true

-- a delivery that is due: all its tests but the last pass, and what is left is room in the log
pub record Due (w : Words) (i m : ℕ) : Type 0 where
  pub there : is_controller w i ≡ true
  pub given : is_message w m ≡ true
  pub up : is_up w i ≡ true
  pub holds : holding w i m ≡ true
  pub passes : may_deliver w i m ≡ true
  pub new : not (has_delivered w i m) ≡ true

pub record Delivers (w : Words) (i m : ℕ) : Type 0 where
  pub due : Due w i m
  pub room : ltb (w (log_length i)) (w count) ≡ true

pub record Crashes (w : Words) (who : ℕ) : Type 0 where
  pub there : is_controller w who ≡ true
  pub up : is_up w who ≡ true

pub record Detects (w : Words) (i j : ℕ) : Type 0 where
  pub first : is_controller w i ≡ true
  pub second : is_controller w j ≡ true
  pub detecting : eqb (w mode) all_ack ≡ true
  pub up : is_up w i ≡ true
  pub down : not (is_up w j) ≡ true
  pub trusts : takes_up w i j ≡ true

pub record Loses (w : Words) (from to m : ℕ) : Type 0 where
  pub ends : Ends w from to m
  pub flies : flying w from to m ≡ true
  pub down : not (is_up w from && is_up w to) ≡ true

module _ (L : Layout) (w : Words) where
  pub broadcast_granted : {who : ℕ} (s v : ℕ) → Holds (rules L w (broadcast who s v)) → Broadcasts L w who
  broadcast_granted s v (there, (up, (room, _))) = record { there = there; up = up; room = room }

  pub send_granted : {from to m : ℕ} → Holds (rules L w (send from to m)) → Sends w from to m
  send_granted (first, (second, (given, (up, (owed, _))))) =
      record { ends = record { first = first; second = second; given = given }; up = up; owed = owed }

  pub receive_granted : {i from m : ℕ} → Holds (rules L w (receive i from m)) → Receives w i from m
  receive_granted (first, (second, (given, (up, (flies, _))))) =
      record { ends = record { first = first; second = second; given = given }; up = up; flies = flies }

  pub due_granted : {i m : ℕ} → Holds (take 6 (rules L w (deliver i m))) → Due w i m
  due_granted (there, (given, (up, (holds, (passes, (new, _)))))) =
      record { there = there; given = given; up = up; holds = holds; passes = passes; new = new }

  pub deliver_granted : {i m : ℕ} → Holds (rules L w (deliver i m)) → Delivers w i m
  deliver_granted (there, (given, (up, (holds, (passes, (new, (room, _))))))) =
      record { due = due_granted (there, (given, (up, (holds, (passes, (new, tt)))))); room = room }

  pub crash_granted : {who : ℕ} → Holds (rules L w (crash who)) → Crashes w who
  crash_granted (there, (up, _)) = record { there = there; up = up }

  pub detect_granted : {i j : ℕ} → Holds (rules L w (detect i j)) → Detects w i j
  detect_granted (first, (second, (detecting, (up, (down, (trusts, _)))))) =
      record { first = first; second = second; detecting = detecting; up = up; down = down; trusts = trusts }

  pub lose_granted : {from to m : ℕ} → Holds (rules L w (lose from to m)) → Loses w from to m
  lose_granted (first, (second, (given, (flies, (down, _))))) =
      record { ends = record { first = first; second = second; given = given }; flies = flies; down = down }

  -- and back: the facts are the rules

  pub broadcast-holds : {who : ℕ} (s v : ℕ) → Broadcasts L w who → Holds (rules L w (broadcast who s v))
  broadcast-holds s v g = (g.there, (g.up, (g.room, tt)))

  pub send-holds : {from to m : ℕ} → Sends w from to m → Holds (rules L w (send from to m))
  send-holds g = (g.ends.first, (g.ends.second, (g.ends.given, (g.up, (g.owed, tt)))))

  pub receive-holds : {i from m : ℕ} → Receives w i from m → Holds (rules L w (receive i from m))
  receive-holds g = (g.ends.first, (g.ends.second, (g.ends.given, (g.up, (g.flies, tt)))))

  pub deliver-holds : {i m : ℕ} → Delivers w i m → Holds (rules L w (deliver i m))
  deliver-holds g =
      let d = g.due in (d.there, (d.given, (d.up, (d.holds, (d.passes, (d.new, (g.room, tt)))))))

  pub crash-holds : {who : ℕ} → Crashes w who → Holds (rules L w (crash who))
  crash-holds g = (g.there, (g.up, tt))

  pub detect-holds : {i j : ℕ} → Detects w i j → Holds (rules L w (detect i j))
  detect-holds g = (g.first, (g.second, (g.detecting, (g.up, (g.down, (g.trusts, tt))))))

  pub lose-holds : {from to m : ℕ} → Loses w from to m → Holds (rules L w (lose from to m))
  lose-holds g = (g.ends.first, (g.ends.second, (g.ends.given, (g.flies, (g.down, tt)))))
