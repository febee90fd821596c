-- What settling leaves alone: the header, stamps and values; and what any step leaves of a log: its entries, the words
-- past its end, and the logs of controllers that are not there.
use mathlib.Core.Path.{◌≡◌, refl, ap, ◌∙◌}
use mathlib.Core.Bool.{Bool, true, false, cond, not, ◌&&◌, ◌||◌}
use mathlib.Core.List.{List}
use Prim.Native.Nat.{ℕ, ◌+◌, ◌≤◌, ◌<◌}
use native.Mathlib.Nat.{lt_irrefl}
use native.Mathlib.Omega.{arith}
use lib.Dec.{eqb, ltb}
use borrow.Author.Tests.{eq-eqb, eqb-true, ltb-true, ltb-false}
use Rattle.bank.specs.Place.{Place, Words, N, mode, count, up, log_length, log, message, stamp, value}
use Rattle.bank.specs.Layout.{Layout, words, PlaceIn}
use Rattle.refusals.specs.Step.{Step, broadcast, send, receive, deliver, crash, detect, lose}
use Rattle.group.specs.Writes.{writes}
use Rattle.refusals.specs.Promises.{Allowed}
use Rattle.group.specs.Promises.{after}
use Rattle.bank.proofs.Places.{key}
use Rattle.bank.proofs.Reading.{later}
use Rattle.refusals.proofs.Granted.{deliver_granted}
use Rattle.group.proofs.WritesIn.{word_after}
use Rattle.laws.specs.Runs.{Run, done, next, Settling}
use Rattle.laws.proofs.Onward.{SettlingKind, sends, receives, delivers, detects, kind_of}
use Rattle.laws.proofs.Untouched.{keeps, untouched}

-- a word that is written only where two numbers are equal
unless : (a b v x : ℕ) → (a ≡ b → ⊥) → cond (eqb a b && true) v x ≡ x
unless a b v x h = go (eqb a b) refl
  where
    go : (t : Bool) → eqb a b ≡ t → cond (t && true) v x ≡ x
    go true e = absurd (h (eqb-true a b e))
    go false e = refl

-- two numbers at once
unless_both : (a b c d v x : ℕ) → ((a ≡ b) × (c ≡ d) → ⊥) → cond (eqb a b && eqb c d) v x ≡ x
unless_both a b c d v x h = go (eqb a b) refl (eqb c d) refl
  where
    go : (s : Bool) → eqb a b ≡ s → (t : Bool) → eqb c d ≡ t → cond (s && t) v x ≡ x
    go true e true f = absurd (h (eqb-true a b e, eqb-true c d f))
    go true e false f = refl
    go false e t f = refl

-- the sender, stamp and value of a record, by their run
said_stays : (w : Words) {s : Step} → SettlingKind s → (r m : ℕ) → ltb r 3 ≡ true → eqb r 4 ≡ false
    → keeps w s (record { region = 7; run = r; index = 0; row = m }) ≡ true
said_stays w sends r m l z = ap (λ t. t || eqb r 4) l
said_stays w receives r m l z = ap (λ t. t || eqb r 4) l
said_stays w delivers r m l z = ap not z
said_stays w detects r m l z = ap (λ t. t || eqb r 4) l

module _ (L : Layout) where
  -- a place that every step of a run leaves alone holds what it held
  kept : (allows : List ℕ → Step → Type 0) → ((b : List ℕ) (e : Step) → allows b e → Allowed L b e)
      → (p : Place) → PlaceIn L p → ((b : List ℕ) (e : Step) → allows b e → keeps (words L b) e (key p) ≡ true)
      → {b x : List ℕ} {es : List Step} → Run allows (after L) b es x → words L x p ≡ words L b p
  kept allows into p l h done = refl
  kept allows into p l h {b} (next {e = e} a r) =
      kept allows into p l h r ∙ untouched L b e (into b e a) p l (h b e a)

  settling-kept : (p : Place) → PlaceIn L p → ((w : Words) (s : Step) → SettlingKind s → keeps w s (key p) ≡ true)
      → {b x : List ℕ} {es : List Step} → Run (Settling (Allowed L)) (after L) b es x → words L x p ≡ words L b p
  settling-kept p l h = kept (Settling (Allowed L)) (λ b e a. a.1) p l (λ b e a. h (words L b) e (kind_of e a.0))

  -- N and the mode, which no step writes
  module _ {b x : List ℕ} {es : List Step} (r : Run (Allowed L) (after L) b es x) where
    pub N-kept : words L x N ≡ words L b N
    N-kept = kept (Allowed L) (λ b e a. a) N tt (λ b e a. refl) r

    pub mode-kept : words L x mode ≡ words L b mode
    mode-kept = kept (Allowed L) (λ b e a. a) mode tt (λ b e a. refl) r

  pub stamp-kept : (m : ℕ) → m < L.messages → {b x : List ℕ} {es : List Step}
      → Run (Settling (Allowed L)) (after L) b es x → words L x (message m stamp) ≡ words L b (message m stamp)
  stamp-kept m l r = settling-kept (message m stamp) (l, omega arith) (λ w s k. said_stays w k 1 m refl refl) r

  pub value-kept : (m : ℕ) → m < L.messages → {b x : List ℕ} {es : List Step}
      → Run (Settling (Allowed L)) (after L) b es x → words L x (message m value) ≡ words L b (message m value)
  value-kept m l r = settling-kept (message m value) (l, omega arith) (λ w s k. said_stays w k 2 m refl refl) r

  count_stays : (w : Words) {s : Step} → SettlingKind s → keeps w s (key count) ≡ true
  count_stays w sends = refl
  count_stays w receives = refl
  count_stays w delivers = refl
  count_stays w detects = refl

  up_stays : (w : Words) {s : Step} → SettlingKind s → later (writes L w s) up (w up) ≡ w up
  up_stays w sends = refl
  up_stays w receives = refl
  up_stays w delivers = refl
  up_stays w detects = refl

  pub count_kept : {b x : List ℕ} {es : List Step} → Run (Settling (Allowed L)) (after L) b es x
      → words L x count ≡ words L b count
  count_kept r = settling-kept count tt (λ w s k. count_stays w k) r

  pub up_kept : {b x : List ℕ} {es : List Step} → Run (Settling (Allowed L)) (after L) b es x
      → words L x up ≡ words L b up
  up_kept done = refl
  up_kept {b} (next {e = e} (s, a) r) = up_kept r ∙ word_after L b e a up tt ∙ up_stays (words L b) (kind_of e s)

  -- ---- lengths and logs, which only a deliver touches

  pub record LogStep (b c : List ℕ) (i : ℕ) : Type 0 where
    pub grows : words L b (log_length i) ≤ words L c (log_length i)
    pub same : (k : ℕ) → k < L.messages → k < words L b (log_length i) → words L c (log i k) ≡ words L b (log i k)
    pub absent : words L b N ≤ i → words L c (log_length i) ≡ words L b (log_length i)
    pub past : (k : ℕ) → k < L.messages → words L c (log_length i) ≤ k → words L c (log i k) ≡ words L b (log i k)

  -- a step that touches neither
  still : (b : List ℕ) (s : Step) → Allowed L b s → (i : ℕ) → i < L.controllers
      → keeps (words L b) s (key (log_length i)) ≡ true → ((k : ℕ) → keeps (words L b) s (key (log i k)) ≡ true)
      → LogStep b (after L b s) i
  still b s a i l h g =
      let e = untouched L b s a (log_length i) l h in
      record {
        grows = omega (arith, e);
        same = λ k j _. untouched L b s a (log i k) (l, j) (g k);
        absent = λ _. e;
        past = λ k j _. untouched L b s a (log i k) (l, j) (g k);
      }

  delivered-step : (b : List ℕ) (j m : ℕ) → Allowed L b (deliver j m) → (i : ℕ) → i < L.controllers
      → LogStep b (after L b (deliver j m)) i
  delivered-step b j m a i l =
      record {
        grows = go (eqb j i) refl;
        same = λ k h g.
            word_after L b (deliver j m) a (log i k) (l, h)
            ∙ unless_both (words L b (log_length j)) k j i m _
            (λ e. lt_irrefl k (omega (arith, g, e.0, ap (λ i. words L b (log_length i)) e.1)));
        absent = λ h. here
            ∙ unless j i _ _
            (λ e. lt_irrefl j (omega (arith, ltb-true j _ (deliver_granted L (words L b) a.free).due.there)));
        past = λ k h g.
            word_after L b (deliver j m) a (log i k) (l, h)
            ∙ unless_both (words L b (log_length j)) k j i m _
            (λ e. lt_irrefl k (omega (arith, g, taken e.1, e.0)));
      }
    where
      here : words L (after L b (deliver j m)) (log_length i)
          ≡ cond (eqb j i && true) (words L b (log_length j) + 1) (words L b (log_length i))
      here = word_after L b (deliver j m) a (log_length i) l

      taken : j ≡ i → words L (after L b (deliver j m)) (log_length i) ≡ words L b (log_length j) + 1
      taken e =
          here
          ∙ ap (λ t. cond (t && true) (words L b (log_length j) + 1) (words L b (log_length i))) (eq-eqb j i e)

      go : (t : Bool) → eqb j i ≡ t → words L b (log_length i) ≤ words L (after L b (deliver j m)) (log_length i)
      go true e =
          let q = eqb-true j i e in
          omega (arith, taken q, ap (λ x. words L b (log_length x)) q)
      go false e =
          omega (arith, here ∙ ap (λ t. cond (t && true) (words L b (log_length j) + 1) (words L b (log_length i))) e)

  log-step : (b : List ℕ) (s : Step) → Allowed L b s → (i : ℕ) → i < L.controllers → LogStep b (after L b s) i
  log-step b (broadcast who s v) a i l = still b (broadcast who s v) a i l refl (λ k. refl)
  log-step b (send from to m) a i l = still b (send from to m) a i l refl (λ k. refl)
  log-step b (receive j from m) a i l = still b (receive j from m) a i l refl (λ k. refl)
  log-step b (deliver j m) a i l = delivered-step b j m a i l
  log-step b (crash who) a i l = still b (crash who) a i l refl (λ k. refl)
  log-step b (detect j h) a i l = still b (detect j h) a i l refl (λ k. refl)
  log-step b (lose from to m) a i l = still b (lose from to m) a i l refl (λ k. refl)

  pub log-run : (i : ℕ) → i < L.controllers → {b x : List ℕ} {es : List Step} → Run (Allowed L) (after L) b es x
      → LogStep b x i
  log-run i l done =
      record { grows = omega arith; same = λ k j g. refl; absent = λ _. refl; past = λ k j g. refl }
  log-run i l {b} {x} (next {e = e} a r) =
      let h = log-step b e a i l in
      let g = log-run i l r in
      record {
        grows = omega (arith, h.grows, g.grows);
        same = λ k j q. g.same k j (omega (arith, h.grows)) ∙ h.same k j q;
        absent = λ q. g.absent (omega (arith, untouched L b e a N tt refl)) ∙ h.absent q;
        past = λ k j q. g.past k j q ∙ h.past k j (omega (arith, g.grows));
      }

  -- of a controller that is not there, every word of the log stays
  pub log-absent : (i : ℕ) → i < L.controllers → {b x : List ℕ} {es : List Step} → Run (Allowed L) (after L) b es x
      → words L b N ≤ i → (k : ℕ) → k < L.messages → words L x (log i k) ≡ words L b (log i k)
  log-absent i l {b} {x} r q k j = go (ltb k (words L b (log_length i))) refl
    where
      g : LogStep b x i
      g = log-run i l r

      go : (t : Bool) → ltb k (words L b (log_length i)) ≡ t → words L x (log i k) ≡ words L b (log i k)
      go true e = g.same k j (ltb-true k (words L b (log_length i)) e)
      go false e = g.past k j (omega (arith, ltb-false k (words L b (log_length i)) e, g.absent q))
