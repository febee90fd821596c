-- What holds of the sets at every moment: a group as opened has it and every step keeps it.
use mathlib.Core.Path.{◌≡◌, refl, ◌∙◌}
use mathlib.Core.List.{List}
use mathlib.Core.Bool.{Bool, true, false, cond, ◌&&◌, false≢true}
use Prim.Native.Nat.{ℕ, ◌<◌}
use native.Mathlib.Omega.{arith}
use lib.Dec.{eqb, ltb}
use borrow.Author.Tests.{eq-eqb, lt-ltb, ltb-true}
use Rattle.refusals.specs.Step.{Step, broadcast, send, receive, deliver, crash, detect, lose}
use Rattle.laws.specs.Runs.{Run, done, next}
use Rattle.laws.proofs.Sets.{RecordSets, Sets, enough_of, put, new_record, act, in_message, open_sets, Ok}
use Rattle.laws.proofs.Sets.{after_send, after_receive, after_deliver, after_lose}
use Rattle.laws.proofs.Enough.{enough_grows}
use Rattle.laws.proofs.Cells.{clash, joined, was_in, on_one, on_cell}
use Rattle.laws.proofs.Copies.{Copy, none, sent, received, lost, down, held_from, held_to, begun, acked_from}

not_both : (x y : Bool) → (x && y) ≡ false → x ≡ true → y ≡ true → ⊥
not_both true y d e f = clash f d
not_both false y d e f = false≢true e

-- a copy from a to b
abbrev CopyOf : Sets → (ℕ → Bool) → (a b : ℕ) (unsent in_flight acked : Bool) → Type 0
CopyOf s held a b = Copy (s.up a) (s.up b) (held a) (held b)

-- of one message: where its copies are; once delivered, its holders pass the delivery test; its sender holds it
abbrev pub SoundRecord : Sets → ℕ → RecordSets → Type 0
SoundRecord s m r =
    record {
      copies : (a b : ℕ) → CopyOf s r.held a b (r.unsent a b) (r.in_flight b a) (r.acked b a);
      spread : (a : ℕ) → r.delivered a ≡ true → enough_of s.mode s.N s.up r.held ≡ true;
      own : m < s.count → r.held r.sender ≡ true;
    }

-- whoever is up is one of the controllers, and every controller takes it to be up; every message's record is sound
pub record Inv (s : Sets) : Type 0 where
  pub inside : (a : ℕ) → s.up a ≡ true → a < s.N
  pub seen : (a b : ℕ) → a < s.N → s.up b ≡ true → s.view a b ≡ true
  pub sound : (m : ℕ) → SoundRecord s m (s.message m)

pub open_inv : (n k : ℕ) → Inv (open_sets n k)
open_inv n k =
    record {
      inside = λ a u. ltb-true a n u;
      seen = λ a b l u. rw (lt-ltb a n l) u;
      sound =
          λ m. record { copies = λ a b. none; spread = λ a e. absurd (false≢true e); own = λ l. absurd (omega arith) };
    }

module _ (s : Sets) (h : Inv s) where
  listed : (a : ℕ) → s.up a ≡ true → ltb a s.N ≡ true
  listed a u = lt-ltb a s.N (h.inside a u)

  -- ---- one record

  module _ (m : ℕ) where
    abbrev r : RecordSets
    r = s.message m

    o : SoundRecord s m r
    o = h.sound m

    sound-send : (from to : ℕ) → r.unsent from to ≡ true → SoundRecord s m (after_send from to r)
    sound-send from to e =
        record {
          copies =
              on_cell from to
              (λ a b t u.
              CopyOf s r.held a b (cond t false (r.unsent a b)) (cond u true (r.in_flight b a)) (r.acked b a))
              (sent (rw e at (o.copies from to)))
              o.copies;
          spread = o.spread;
          own = o.own;
        }

    sound-lose : (from to : ℕ) → r.in_flight to from ≡ true → (s.up from && s.up to) ≡ false
        → SoundRecord s m (after_lose from to r)
    sound-lose from to e d =
        record {
          copies =
              on_cell from to
              (λ a b t u. CopyOf s r.held a b (r.unsent a b) (cond u false (r.in_flight b a)) (r.acked b a))
              (lost (not_both (s.up from) (s.up to) d) (rw e at (o.copies from to)))
              o.copies;
          spread = o.spread;
          own = o.own;
        }

    sound-receive : (i from : ℕ) → r.in_flight i from ≡ true → SoundRecord s m (after_receive s.N i from r)
    sound-receive i from e =
        record {
          copies =
              on_cell from i
              (λ a b t u.
              CopyOf s held' a b (unsent' a b) (cond u false (r.in_flight b a)) (cond u true (r.acked b a)))
              (received (rw (eq-eqb i i refl)) (rw e at (begins from i)))
              begins;
          spread =
              λ a d.
              enough_grows s.mode s.N s.up s.up r.held held' (λ _ b _ u. u) (λ b _. joins b)
              (o.spread a d);
          own = λ l. joins r.sender (o.own l);
        }
      where
        held' : ℕ → Bool
        held' = (after_receive s.N i from r).held

        unsent' : ℕ → ℕ → Bool
        unsent' = (after_receive s.N i from r).unsent

        joins : (a : ℕ) → r.held a ≡ true → held' a ≡ true
        joins a = joined (eqb i a) (r.held a)

        begins : (a b : ℕ) → CopyOf s held' a b (unsent' a b) (r.in_flight b a) (r.acked b a)
        begins a b = held_to (eqb i b) (held_from (eqb i a) (ltb b s.N) (listed b) (o.copies a b))

    sound-deliver : (i : ℕ) → i < s.N → enough_of s.mode s.N (s.view i) (r.acked i) ≡ true
        → SoundRecord s m (after_deliver i r)
    sound-deliver i l e =
        record {
          copies = o.copies;
          spread =
              on_one i
              (λ a t. cond t true (r.delivered a) ≡ true → enough_of s.mode s.N s.up r.held ≡ true)
              (λ _.
              enough_grows s.mode s.N (s.view i) s.up (r.acked i) r.held
              (λ _ b _ u. h.seen i b l u)
              (λ b _ a. acked_from (rw a at (o.copies b i)))
              e)
              (λ a _. o.spread a);
          own = o.own;
        }

  -- ---- the group

  in-message : (m : ℕ) (f : RecordSets → RecordSets) → SoundRecord s m (f (s.message m)) → Inv (in_message s m f)
  in-message m f new =
      record {
        inside = h.inside;
        seen = h.seen;
        sound = on_one m (λ k t. SoundRecord s k (cond t (f (s.message k)) (s.message k))) new (λ k _. h.sound k);
      }

  keep_broadcast : (who stamp value : ℕ) → Inv (act s (broadcast who stamp value))
  unfolding act
  keep_broadcast who stamp value =
      record {
        inside = h.inside;
        seen = h.seen;
        sound =
            on_one s.count
            (λ k t.
            SoundRecord (act s (broadcast who stamp value)) k
            (cond t (new_record s.N who) (s.message k)))
            (record {
              copies = λ a b. begun (eqb who a) (ltb b s.N) (listed b);
              spread = λ a e. absurd (false≢true e);
              own = λ l. eq-eqb who who refl;
            })
            (λ k n.
            let o = h.sound k in
            record { copies = o.copies; spread = o.spread; own = λ l. o.own (omega arith) });
      }

  keep_crash : (who : ℕ) → Inv (act s (crash who))
  unfolding act
  keep_crash who =
      record {
        inside = λ a u. h.inside a (was_up a u);
        seen = λ a b l u. h.seen a b l (was_up b u);
        sound =
            λ m.
            let o = h.sound m in
            record {
              copies = λ a b. down (up' a) (up' b) (was_up a) (was_up b) (o.copies a b);
              spread =
                  λ a e.
                  enough_grows s.mode s.N s.up up' (s.message m).held (s.message m).held
                  (λ _ b _. was_up b)
                  (λ b _ x. x)
                  (o.spread a e);
              own = o.own;
            };
      }
    where
      up' : ℕ → Bool
      up' = put who false s.up

      was_up : (a : ℕ) → up' a ≡ true → s.up a ≡ true
      was_up a = was_in (eqb who a) (s.up a)

  keep_detect : (i j : ℕ) → s.up j ≡ false → Inv (act s (detect i j))
  unfolding act
  keep_detect i j d =
      record {
        inside = h.inside;
        seen =
            on_cell i j (λ a b t _. a < s.N → s.up b ≡ true → cond t false (s.view a b) ≡ true)
            (λ _ u. absurd (clash u d))
            h.seen;
        sound = h.sound;
      }

-- ---- every step, and every run

pub keep : (room : ℕ) (s : Sets) → Inv s → (e : Step) → Ok room s e → Inv (act s e)
unfolding act
keep room s h (broadcast who stamp value) o = keep_broadcast s h who stamp value
keep room s h (send from to m) (l, u, e) = in-message s h m (after_send from to) (sound-send s h m from to e)
keep room s h (receive i from m) (l, u, e) =
    in-message s h m (after_receive s.N i from) (sound-receive s h m i from e)
keep room s h (deliver i m) ((l, g), u, (x, y, e)) = in-message s h m (after_deliver i) (sound-deliver s h m i l e)
keep room s h (crash who) o = keep_crash s h who
keep room s h (detect i j) (l, u, (a, d, e)) = keep_detect s h i j d
keep room s h (lose from to m) (l, e, d) = in-message s h m (after_lose from to) (sound-lose s h m from to e d)

pub run_inv : (room : ℕ) {s t : Sets} {es : List Step} → Inv s → Run (Ok room) act s es t → Inv t
run_inv room h done = h
run_inv room {s} h (next {e = e} ok go) = run_inv room (keep room s h e ok) go

-- no step changes how many controllers there are, or the mode
abbrev pub SameGroup : Sets → Sets → Type 0
SameGroup s t = (t.N ≡ s.N) × (t.mode ≡ s.mode)

pub same_group : (s : Sets) (e : Step) → SameGroup s (act s e)
unfolding act
same_group s (broadcast who stamp value) = (refl, refl)
same_group s (send from to m) = (refl, refl)
same_group s (receive i from m) = (refl, refl)
same_group s (deliver i m) = (refl, refl)
same_group s (crash who) = (refl, refl)
same_group s (detect i j) = (refl, refl)
same_group s (lose from to m) = (refl, refl)

pub run_group : (room : ℕ) {s t : Sets} {es : List Step} → Run (Ok room) act s es t → SameGroup s t
run_group room done = (refl, refl)
run_group room {s} (next {e = e} ok go) =
    let first = same_group s e in
    let rest = run_group room go in
    (rest.0 ∙ first.0, rest.1 ∙ first.1)
