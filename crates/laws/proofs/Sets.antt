-- A group as sets: who is up, whom each takes to be up, who holds each message, where its copies are. No word, no log.
-- Only a means of proof: Steps.antt and Allowing.antt show that the group's own rules, read on sets, are these.
use Prim.Native.Nat.{ℕ, ◌+◌, ◌*◌, ◌<◌}
use mathlib.Core.Path.{◌≡◌}
use mathlib.Core.Bool.{Bool, true, false, cond, not, ◌&&◌}
use mathlib.Core.Logic.{◌⊎◌}
use lib.Dec.{eqb, ltb}
use Rattle.sets.specs.Set.{set_of, how_many}
use Rattle.bank.specs.Fit.{all_ack}
use Rattle.refusals.specs.Delivery.{enough}
use Rattle.refusals.specs.Step.{Step, broadcast, send, receive, deliver, crash, detect, lose}

-- one message's record; of the sets that each controller has, the controller comes first, then the member
pub record RecordSets : Type 0 where
  pub sender : ℕ
  pub held : ℕ → Bool
  pub delivered : ℕ → Bool
  pub acked : ℕ → ℕ → Bool
  pub unsent : ℕ → ℕ → Bool
  pub in_flight : ℕ → ℕ → Bool

pub record Sets : Type 0 where
  pub N : ℕ
  pub mode : ℕ
  pub count : ℕ
  pub up : ℕ → Bool
  pub view : ℕ → ℕ → Bool
  pub message : ℕ → RecordSets

-- the group's delivery test, of the words that gather two sets
unfoldable pub enough_of : ℕ → ℕ → (ℕ → Bool) → (ℕ → Bool) → Bool
enough_of k n trusted received = enough k n (set_of trusted n) (set_of received n)

-- ---- one member in or out, as `v` says

abbrev pub put : ℕ → Bool → (ℕ → Bool) → ℕ → Bool
put i v f a = cond (eqb i a) v (f a)

-- member j of controller i's set
abbrev pub cell : ℕ → ℕ → ℕ → ℕ → Bool
cell i j a b = eqb i a && eqb j b

abbrev pub put_at : ℕ → ℕ → Bool → (ℕ → ℕ → Bool) → ℕ → ℕ → Bool
put_at i j v f a b = cond (cell i j a b) v (f a b)

-- ---- one record

-- before it is written, and as it is broadcast among n
abbrev pub no_record : RecordSets
no_record =
    record {
      sender = 0;
      held = λ a. false;
      delivered = λ a. false;
      acked = λ a b. false;
      unsent = λ a b. false;
      in_flight = λ a b. false;
    }

abbrev pub new_record : ℕ → ℕ → RecordSets
new_record n who =
    record {
      sender = who;
      held = λ a. eqb who a;
      delivered = λ a. false;
      acked = λ a b. false;
      unsent = λ a b. eqb who a && ltb b n;
      in_flight = λ a b. false;
    }

-- another record of the same sender
abbrev pub record_with : (r : RecordSets) (held delivered : ℕ → Bool) (acked unsent in_flight : ℕ → ℕ → Bool)
    → RecordSets
record_with r held delivered acked unsent in_flight =
    record {
      sender = r.sender;
      held = held;
      delivered = delivered;
      acked = acked;
      unsent = unsent;
      in_flight = in_flight;
    }

-- the copy moves from unsent to in flight
abbrev pub after_send : ℕ → ℕ → RecordSets → RecordSets
after_send from to r =
    record_with r r.held r.delivered r.acked
    (put_at from to false r.unsent)
    (put_at to from true r.in_flight)

-- whether the receipt at i makes a copy from a to b: the first time that i gets the message it must send to all n
abbrev pub relayed : ℕ → ℕ → RecordSets → ℕ → ℕ → Bool
relayed n i r a b = eqb i a && (not (r.held a) && ltb b n)

-- the copy leaves flight and its sender joins acked; the controller holds the message
abbrev pub after_receive : ℕ → ℕ → ℕ → RecordSets → RecordSets
after_receive n i from r =
    record_with r
    (put i true r.held)
    r.delivered
    (put_at i from true r.acked)
    (λ a b. cond (relayed n i r a b) true (r.unsent a b))
    (put_at i from false r.in_flight)

abbrev pub after_deliver : ℕ → RecordSets → RecordSets
after_deliver i r = record_with r r.held (put i true r.delivered) r.acked r.unsent r.in_flight

abbrev pub after_lose : ℕ → ℕ → RecordSets → RecordSets
after_lose from to r = record_with r r.held r.delivered r.acked r.unsent (put_at to from false r.in_flight)

-- ---- the group

-- other sets of the same group
abbrev pub sets_with : (s : Sets) (count : ℕ) (up : ℕ → Bool) (view : ℕ → ℕ → Bool) (message : ℕ → RecordSets) → Sets
sets_with s count up view message =
    record {
      N = s.N;
      mode = s.mode;
      count = count;
      up = up;
      view = view;
      message = message;
    }

-- message m's record is changed and no other
abbrev pub in_message : Sets → ℕ → (RecordSets → RecordSets) → Sets
in_message s m f = sets_with s s.count s.up s.view (λ k. cond (eqb m k) (f (s.message k)) (s.message k))

-- what each step changes
unfoldable pub act : Sets → Step → Sets
act s (broadcast who stamp value) =
    sets_with s (s.count + 1) s.up s.view
    (λ k. cond (eqb s.count k) (new_record s.N who) (s.message k))
act s (send from to m) = in_message s m (after_send from to)
act s (receive i from m) = in_message s m (after_receive s.N i from)
act s (deliver i m) = in_message s m (after_deliver i)
act s (crash who) = sets_with s s.count (put who false s.up) s.view s.message
act s (detect i j) = sets_with s s.count s.up (put_at i j false s.view) s.message
act s (lose from to m) = in_message s m (after_lose from to)

-- a group of n just opened
abbrev pub open_sets : ℕ → ℕ → Sets
open_sets n k =
    record {
      N = n;
      mode = k;
      count = 0;
      up = λ a. ltb a n;
      view = λ a b. ltb a n && ltb b n;
      message = λ m. no_record;
    }

-- ---- what allows a step

-- two controllers and a message that are there
abbrev pub Named : Sets → ℕ → ℕ → ℕ → Type 0
Named s i j m = (i < s.N) × (j < s.N) × (m < s.count)

-- the message is held, not delivered, and the delivery test passes
abbrev pub Ready : Sets → ℕ → RecordSets → Type 0
Ready s i r =
    (r.held i ≡ true)
    × (r.delivered i ≡ false)
    × (enough_of s.mode s.N (s.view i) (r.acked i) ≡ true)

-- there is room for so many messages; names first, then who must be up, then what the sets must hold
abbrev pub Ok : ℕ → Sets → Step → Type 0
Ok room s (broadcast who stamp value) = (who < s.N) × (s.up who ≡ true) × (s.count < room)
Ok room s (send from to m) = Named s from to m × (s.up from ≡ true) × ((s.message m).unsent from to ≡ true)
Ok room s (receive i from m) = Named s i from m × (s.up i ≡ true) × ((s.message m).in_flight i from ≡ true)
Ok room s (deliver i m) = ((i < s.N) × (m < s.count)) × (s.up i ≡ true) × Ready s i (s.message m)
Ok room s (crash who) = (who < s.N) × (s.up who ≡ true)
Ok room s (detect i j) =
    ((i < s.N) × (j < s.N))
    × (s.up i ≡ true)
    × ((s.mode ≡ all_ack) × (s.up j ≡ false) × (s.view i j ≡ true))
Ok room s (lose from to m) =
    Named s from to m × ((s.message m).in_flight to from ≡ true) × ((s.up from && s.up to) ≡ false)

-- all-ack, or more than half of the controllers are up
abbrev pub Quorate : Sets → Type 0
Quorate s = (s.mode ≡ all_ack) ⊎ (s.N < 2 * how_many s.up s.N)
