-- What a bank allows its sets allow, and what they allow of settling the bank allows where a log has room.
use mathlib.Core.Path.{◌≡◌, sym, ap, ap₂, ◌∙◌}
use mathlib.Core.Bool.{false, not, ◌&&◌}
use mathlib.Core.List.{List}
use Prim.Native.Nat.{ℕ, ◌<◌}
use native.Mathlib.Omega.{arith}
use borrow.Author.Tests.{lt-ltb, ltb-true, eq-eqb, eqb-true, not-true}
use Rattle.sets.specs.Set.{has}
use Rattle.bank.specs.Place.{Field, Place, Words, N, mode, count, view, log_length, message}
use Rattle.bank.specs.Place.{held, delivered, acked, unsent, in_flight}
use Rattle.bank.specs.Layout.{Layout, words, PlaceIn, FieldIn}
use Rattle.bank.specs.Fit.{Fit}
use Rattle.refusals.specs.Step.{Step, broadcast, send, receive, deliver, crash, detect, lose}
use Rattle.refusals.specs.Delivery.{enough}
use Rattle.refusals.specs.Promises.{Allowed}
use Rattle.refusals.proofs.Granted.{Ends, broadcast_granted, send_granted, receive_granted, deliver_granted}
use Rattle.refusals.proofs.Granted.{crash_granted, detect_granted, lose_granted}
use Rattle.refusals.proofs.Granted.{send-holds, receive-holds, deliver-holds, detect-holds}
use Rattle.refusals.proofs.Bounds.{EndsIn, controller_below, message-below, ends-below}
use Rattle.laws.proofs.Onward.{SettlingKind, sends, receives, delivers, detects}
use Rattle.laws.proofs.Sets.{enough_of, Named, Ok}
use Rattle.laws.proofs.Enough.{one_test}
use Rattle.laws.proofs.Visible.{visible, seen_in}
use Rattle.laws.proofs.Bridge.{record_sets, sets}
use Rattle.laws.proofs.Steps.{sets_of}

module _ (L : Layout) (b : List ℕ) where
  abbrev w : Words
  w = words L b

  -- a set word of a place that the layout has
  same_has : (p : Place) (j : ℕ) → PlaceIn L p → has (visible L w p) j ≡ has (w p) j
  same_has p j h = ap (λ x. has x j) (seen_in L w p h)

  -- the names of a copy, and the set word g of its record: seen or read, k is in it or not
  ends_named : {i j m : ℕ} → Ends w i j m → Named (sets_of L b) i j m
  unfolding sets_of sets visible
  ends_named e = (ltb-true _ _ e.first, ltb-true _ _ e.second, ltb-true _ _ e.given)

  named_ends : {i j m : ℕ} → Named (sets_of L b) i j m → Ends w i j m
  unfolding sets_of sets visible
  named_ends (hi, hj, hm) = record { first = lt-ltb _ _ hi; second = lt-ltb _ _ hj; given = lt-ltb _ _ hm }

  same_copy : Fit L b → {i j m : ℕ} → Ends w i j m → (k : ℕ) (g : Field) → (EndsIn L i j m → FieldIn L g)
      → has (visible L w (message m g)) k ≡ has (w (message m g)) k
  same_copy f {m = m} e k g own = let d = ends-below L b f e in same_has (message m g) k (d.message, own d)

  same_enough : (k n i m : ℕ) → i < L.controllers → m < L.messages
      → enough_of k n (has (visible L w (view i))) (has (visible L w (message m (acked i))))
      ≡ enough k n (w (view i)) (w (message m (acked i)))
  same_enough k n i m hi hm =
      one_test k n _ _
      ∙ ap₂ (enough k n) (seen_in L w (view i) hi) (seen_in L w (message m (acked i)) (hm, hi))

  pub allowed_ok : (s : Step) → Allowed L b s → Ok L.messages (sets_of L b) s
  unfolding sets_of sets record_sets visible
  allowed_ok (broadcast who s v) a =
      let g = broadcast_granted L w s v a.free in (ltb-true _ _ g.there, g.up, ltb-true _ _ g.room)
  allowed_ok (send from to m) a =
      let g = send_granted L w a.free in
      (ends_named g.ends, g.up, same_copy a.sound g.ends to (unsent from) (λ e. e.first) ∙ g.owed)
  allowed_ok (receive i from m) a =
      let g = receive_granted L w a.free in
      (ends_named g.ends, g.up, same_copy a.sound g.ends from (in_flight i) (λ e. e.first) ∙ g.flies)
  allowed_ok (deliver i m) a =
      let g = (deliver_granted L w a.free).due in
      let j = controller_below L b a.sound i g.there in
      let k = message-below L b a.sound m g.given in
      let one : 0 < 1 = omega arith in (
        (ltb-true _ _ g.there, ltb-true _ _ g.given),
        g.up,
        (
          same_has (message m held) i (k, one) ∙ g.holds,
          same_has (message m delivered) i (k, one) ∙ not-true _ g.new,
          same_enough (w mode) (w N) i m j k ∙ g.passes,
        ),
      )
  allowed_ok (crash who) a = let g = crash_granted L w a.free in (ltb-true _ _ g.there, g.up)
  allowed_ok (detect i j) a =
      let g = detect_granted L w a.free in (
        (ltb-true _ _ g.first, ltb-true _ _ g.second),
        g.up,
        (
          eqb-true _ _ g.detecting,
          not-true _ g.down,
          same_has (view i) j (controller_below L b a.sound i g.first) ∙ g.trusts,
        ),
      )
  allowed_ok (lose from to m) a =
      let g = lose_granted L w a.free in
      let down : ((sets_of L b).up from && (sets_of L b).up to) ≡ false = not-true _ g.down in (
        ends_named g.ends,
        same_copy a.sound g.ends from (in_flight to) (λ e. e.second) ∙ g.flies,
        (cc),
      )

  -- a deliver needs room in the log besides
  abbrev pub Roomy : Step → Type 0
  Roomy (broadcast who s v) = Unit {0}
  Roomy (send from to m) = Unit {0}
  Roomy (receive i from m) = Unit {0}
  Roomy (deliver i m) = w (log_length i) < w count
  Roomy (crash who) = Unit {0}
  Roomy (detect i j) = Unit {0}
  Roomy (lose from to m) = Unit {0}

  pub ok_allowed : Fit L b → {s : Step} → SettlingKind s → Roomy s → Ok L.messages (sets_of L b) s → Allowed L b s
  unfolding sets_of sets record_sets visible
  ok_allowed f (sends {from} {to} {m}) r (n, u, h) =
      let e = named_ends n in
      let owed = sym (same_copy f e to (unsent from) (λ d. d.first)) ∙ h in
      record { sound = f; free = send-holds L w (record { ends = e; up = u; owed = owed }) }
  ok_allowed f (receives {i} {from} {m}) r (n, u, h) =
      let e = named_ends n in
      let flies = sym (same_copy f e from (in_flight i) (λ d. d.first)) ∙ h in
      record { sound = f; free = receive-holds L w (record { ends = e; up = u; flies = flies }) }
  ok_allowed f (delivers {i} {m}) r (n, u, h) =
      let there = lt-ltb _ _ n.0 in
      let given = lt-ltb _ _ n.1 in
      let j = controller_below L b f i there in
      let k = message-below L b f m given in
      let one : 0 < 1 = omega arith in
      record {
        sound = f;
        free = deliver-holds L w
            (record {
              due = record {
                there = there;
                given = given;
                up = u;
                holds = sym (same_has (message m held) i (k, one)) ∙ h.0;
                passes = sym (same_enough (w mode) (w N) i m j k) ∙ h.2;
                new = ap not (sym (same_has (message m delivered) i (k, one)) ∙ h.1);
              };
              room = lt-ltb _ _ r;
            });
      }
  ok_allowed f (detects {i} {j}) r (n, u, h) =
      let first = lt-ltb _ _ n.0 in
      let d = controller_below L b f i first in
      record {
        sound = f;
        free = detect-holds L w
            (record {
              first = first;
              second = lt-ltb _ _ n.1;
              detecting = eq-eqb _ _ h.0;
              up = u;
              down = ap not h.1;
              trusts = sym (same_has (view i) j d) ∙ h.2;
            });
      }
