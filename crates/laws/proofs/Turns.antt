-- The settler takes its steps in turn: what is allowed after a step, and of an earlier turn, was allowed before it.
use mathlib.Core.Path.{◌≡◌, refl, ap, subst}
use mathlib.Core.Bool.{Bool, true, false, cond, ◌&&◌}
use mathlib.Core.List.{List, [], ◌∷◌}
use mathlib.Core.Option.{Option, none, some}
use Prim.Native.Nat.{ℕ, zero, suc, ◌+◌, ◌≤◌, ◌<◌}
use native.Mathlib.Omega.{arith}
use lib.Dec.{eqb, ltb}
use borrow.Author.Tests.{ne_eqb, eqb-true, ltb-true, ltb-false}
use Rattle.bank.specs.Place.{count, log_length}
use Rattle.bank.specs.Layout.{Layout, words}
use Rattle.bank.specs.Fit.{Fit}
use Rattle.refusals.specs.Step.{Step, broadcast, send, receive, deliver, crash, detect, lose}
use Rattle.refusals.specs.Promises.{Allowed}
use Rattle.group.specs.Promises.{after}
use Rattle.refusals.proofs.Granted.{deliver_granted}
use Rattle.refusals.proofs.Bounds.{controller_below}
use Rattle.group.proofs.Kept.{fit-after}
use Rattle.group.proofs.WritesIn.{word_after}
use Rattle.settler.specs.Candidates.{next}
use Rattle.settler.specs.Settling.{on_next}
use Rattle.laws.specs.Runs.{Settling}
use Rattle.laws.specs.Settler.{chosen, turn, InTurn}
use Rattle.laws.proofs.Sets.{RecordSets, Sets, in_message, act, Ok, after_send, after_receive, after_deliver}
use Rattle.laws.proofs.Onward.{SettlingKind, sends, receives, delivers, detects, kind_of}
use Rattle.laws.proofs.Steps.{sets_of, sets-after}
use Rattle.laws.proofs.Allowing.{allowed_ok, Roomy, ok_allowed}
use Rattle.laws.proofs.Untouched.{untouched}
use Rattle.laws.proofs.Choice.{Next, next_is}

-- ---- on sets: a step of message m changes only m's record

module _ (room : ℕ) (s : Sets) where
  earlier : (m : ℕ) (f : RecordSets → RecordSets) {e : Step} → SettlingKind e → turn e < m + 1
      → Ok room (in_message s m f) e → Ok room s e
  earlier m f (sends {m = k}) l o = rw (ne_eqb m k (omega arith)) at o
  earlier m f (receives {m = k}) l o = rw (ne_eqb m k (omega arith)) at o
  earlier m f (delivers {m = k}) l o = rw (ne_eqb m k (omega arith)) at o
  earlier m f detects l o = o

  -- what is allowed after a step of a later turn was allowed before it
  already : {e a : Step} → SettlingKind e → SettlingKind a → turn a < turn e → Ok room (act s e) a → Ok room s a
  unfolding act
  already (sends {from} {to} {m}) k l o = earlier m (after_send from to) k l o
  already (receives {i} {from} {m}) k l o = earlier m (after_receive s.N i from) k l o
  already (delivers {i} {m}) k l o = earlier m (after_deliver i) k l o
  already detects k l o = absurd (omega arith)

-- ---- on banks: a log that has room after a step had it before

module _ (L : Layout) (b : List ℕ) where
  count_stays : {e : Step} → SettlingKind e → Allowed L b e → words L (after L b e) count ≡ words L b count
  count_stays (sends {from} {to} {m}) a = untouched L b (send from to m) a count tt refl
  count_stays (receives {i} {from} {m}) a = untouched L b (receive i from m) a count tt refl
  count_stays (delivers {i} {m}) a = untouched L b (deliver i m) a count tt refl
  count_stays (detects {i} {j}) a = untouched L b (detect i j) a count tt refl

  log_grows : {e : Step} → SettlingKind e → Allowed L b e → (i : ℕ) → i < L.controllers
      → words L b (log_length i) ≤ words L (after L b e) (log_length i)
  log_grows (sends {from} {to} {m}) a i l = omega (arith, untouched L b (send from to m) a (log_length i) l refl)
  log_grows (receives {i = j} {from} {m}) a i l =
      omega (arith, untouched L b (receive j from m) a (log_length i) l refl)
  log_grows (delivers {i = j} {m}) a i l =
      go (eqb j i) refl (word_after L b (deliver j m) a (log_length i) l)
    where
      go : (t : Bool) → eqb j i ≡ t
          → words L (after L b (deliver j m)) (log_length i)
          ≡ cond (t && true) (words L b (log_length j) + 1) (words L b (log_length i))
          → words L b (log_length i) ≤ words L (after L b (deliver j m)) (log_length i)
      go true e q = omega (arith, q, ap (λ k. words L b (log_length k)) (eqb-true j i e))
      go false e q = omega (arith, q)
  log_grows (detects {i = j} {j = k}) a i l = omega (arith, untouched L b (detect j k) a (log_length i) l refl)

  roomy_before : {e : Step} → SettlingKind e → Allowed L b e → (a : Step) → Allowed L (after L b e) a → Roomy L b a
  roomy_before k o (broadcast who s v) a = tt
  roomy_before k o (send from to m) a = tt
  roomy_before k o (receive i from m) a = tt
  roomy_before {e} k o (deliver i m) a =
      let g = deliver_granted L (words L (after L b e)) a.free in
      let h : words L (after L b e) (log_length i) < words L (after L b e) count = ltb-true _ _ g.room in
      let l = controller_below L (after L b e) a.sound i g.due.there in
      omega (arith, h, log_grows k o i l, count_stays k o)
  roomy_before k o (crash who) a = tt
  roomy_before k o (detect i j) a = tt
  roomy_before k o (lose from to m) a = tt

  allowed_already : (e a : Step) → Settling (Allowed L) b e → Settling (Allowed L) (after L b e) a → turn a < turn e
      → Allowed L b a
  allowed_already e a (s, o) (t, p) l =
      let k = kind_of e s in
      ok_allowed L b o.sound (kind_of a t) (roomy_before k o a p)
      (already L.messages (sets_of L b) k (kind_of a t) l
      (subst (λ x. Ok L.messages x a) (sets-after L b e o) (allowed_ok L (after L b e) a p)))

-- ---- the steps that the settler takes

module _ (L : Layout) where
  from_here : (d : ℕ) (b : List ℕ) (j : ℕ) → Fit L b → ((e : Step) → Settling (Allowed L) b e → j ≤ turn e)
      → InTurn j (chosen L d b)
  unfolding chosen
  from_here zero b j f h = tt
  from_here (suc d) b j f h = go (next L b) (next_is L b f) (λ e. from_here d (after L b e) (turn e))
    where
      go : (o : Option Step) → Next L b o
          → ((e : Step) → Fit L (after L b e)
          → ((a : Step) → Settling (Allowed L) (after L b e) a → turn e ≤ turn a)
          → InTurn (turn e) (chosen L d (after L b e)))
          → InTurn j (on_next o [] (λ e. e ∷ chosen L d (after L b e)))
      go none n r = tt
      go (some e) (o, first) r =
          (h e o, r e (fit-after L b e o.1) (λ a p. later a p (ltb (turn a) (turn e)) refl))
        where
          later : (a : Step) → Settling (Allowed L) (after L b e) a → (t : Bool) → ltb (turn a) (turn e) ≡ t
              → turn e ≤ turn a
          later a p true q = first a (p.0, allowed_already L b e a o p (ltb-true _ _ q))
          later a p false q = ltb-false _ _ q

  -- detects, then the messages in rising order
  pub settler_in_turn : (d : ℕ) (b : List ℕ) → Fit L b → InTurn 0 (chosen L d b)
  settler_in_turn d b f = from_here d b 0 f (λ e o. omega arith)
