-- At every moment each log holds the messages delivered there, once each, and nothing else: it has room for the rest.
use mathlib.Core.Path.{◌≡◌, refl, sym, ap, subst, ◌∙◌}
use mathlib.Core.Bool.{Bool, true, false, cond, not, ◌&&◌, ◌||◌, and-false, and-true, or-false}
use mathlib.Core.List.{List}
use Prim.Native.Nat.{ℕ, ◌+◌, ◌<◌}
use native.Mathlib.Omega.{arith}
use lib.Dec.{eqb, ltb}
use borrow.Author.Tests.{eq-eqb, ne_eqb, eqb-true, eqb-false, lt-ltb, le-ltb, ltb-true, ltb-false, not-true}
use Rattle.sets.specs.Set.{has, with, how_many}
use Rattle.sets.proofs.Members.{has-none, has-with}
use Rattle.sets.proofs.Counts.{how_many_gap}
use Rattle.bank.specs.Place.{Words, N, count, log_length, log, message, delivered}
use Rattle.bank.specs.Layout.{Layout, words}
use Rattle.bank.specs.Fit.{is_size, is_mode}
use Rattle.bank.specs.Opening.{opened}
use Rattle.refusals.specs.Step.{Step, broadcast, send, receive, deliver, crash, detect, lose}
use Rattle.refusals.specs.State.{is_message, has_delivered}
use Rattle.refusals.specs.Promises.{Allowed}
use Rattle.group.specs.Promises.{after}
use Rattle.bank.proofs.Places.{Key, key}
use Rattle.bank.proofs.Fitness.{fit_opened}
use Rattle.refusals.proofs.Granted.{Delivers, deliver_granted}
use Rattle.group.proofs.WritesIn.{word_after}
use Rattle.laws.proofs.Broadcast.{new_word, one_more}
use Rattle.laws.specs.Runs.{Run}
use Rattle.laws.specs.Logs.{LogsRight}
use Rattle.laws.proofs.Untouched.{steady, spares, keeps, untouched}
use Rattle.laws.proofs.Entries.{log_short, log-occurs}
use Rattle.laws.proofs.Listing.{Lists, lists_same, lists_more, how_many-below}
use Rattle.laws.proofs.Reached.{along, opened-word, fit-run}

-- message x was broadcast, and controller i has delivered it
abbrev told : Words → ℕ → ℕ → Bool
told w i x = is_message w x && has_delivered w i x

abbrev Log : Layout → Words → ℕ → Type 0
Log L w i = Lists L.messages (told w i) (w (log_length i)) (λ k. w (log i k))

-- every controller's log lists what it has delivered
abbrev Logs : Layout → List ℕ → Type 0
Logs L b = (i : ℕ) → i < words L b N → Log L (words L b) i

-- ---- a step

abbrev new : Layout → List ℕ → Step → Words
new L b s = words L (after L b s)

module _ (L : Layout) (b : List ℕ) (s : Step) (a : Allowed L b s) where
  in_layout : (i : ℕ) → i < words L b N → i < L.controllers
  in_layout i l = omega (arith, a.sound.few)

  entry_in_layout : (i k : ℕ) → i < words L b N → k < words L b (log_length i)
      → (i < L.controllers) × (k < L.messages)
  entry_in_layout i k l r = (in_layout i l, omega (arith, log_short L b a.sound i l, a.sound.given))

  -- a step that leaves the log alone, and of each message whether i has delivered it
  still : (i : ℕ) → i < words L b N → keeps (words L b) s (key (log_length i)) ≡ true
      → ((k : ℕ) → keeps (words L b) s (key (log i k)) ≡ true) → ((x : ℕ) → told (new L b s) i x ≡ told (words L b) i x)
      → Log L (words L b) i → Log L (new L b s) i
  still i l n e t h =
      lists_same h (λ k r. untouched L b s a (log i k) (entry_in_layout i k l r) (e k))
      (untouched L b s a (log_length i) (in_layout i l) n) t

  same_told : (i x : ℕ) → ltb x (new L b s count) ≡ ltb x (words L b count)
      → keeps (words L b) s (key (message x delivered)) ≡ true → told (new L b s) i x ≡ told (words L b) i x
  same_told i x c e = ap (λ t. t && has_delivered (new L b s) i x) c ∙ go (ltb x (words L b count)) refl
    where
      go : (t : Bool) → ltb x (words L b count) ≡ t
          → (t && has_delivered (new L b s) i x) ≡ (t && has_delivered (words L b) i x)
      go true q =
          let room : x < L.messages = omega (arith, ltb-true x (words L b count) q, a.sound.given) in
          ap (λ d. has d i) (untouched L b s a (message x delivered) (room, omega arith) e)
      go false q = refl

  -- one that leaves alone all that these laws follow
  quiet : ((k : Key) → spares (words L b) s k ≡ steady k) → (i : ℕ) → i < words L b N
      → Log L (words L b) i → Log L (new L b s) i
  quiet e i l =
      still i l (e (key (log_length i))) (λ k. e (key (log i k)))
      (λ x. same_told i x (ap (ltb x) (untouched L b s a count tt (e (key count)))) (e (key (message x delivered))))

-- a broadcast leaves what was delivered, and its own message is delivered nowhere
module _ (L : Layout) (b : List ℕ) (who s v : ℕ) (a : Allowed L b (broadcast who s v)) where
  told-broadcast : (i x : ℕ) → told (new L b (broadcast who s v)) i x ≡ told (words L b) i x
  told-broadcast i x = go (eqb x c) refl
    where
      c : ℕ
      c = words L b count

      other : (t : Bool) → ltb x c ≡ t → eqb x c ≡ false → ltb x (c + 1) ≡ t
      other true q e = lt-ltb x (c + 1) (omega (arith, ltb-true x c q))
      other false q e = le-ltb x (c + 1) (omega (arith, ltb-false x c q, eqb-false x c e))

      go : (t : Bool) → eqb x c ≡ t → told (new L b (broadcast who s v)) i x ≡ told (words L b) i x
      go true e =
          let here : x ≡ c = eqb-true x c e in
          let none : has (words L (after L b (broadcast who s v)) (message x delivered)) i ≡ false =
          rw (here, new_word L b who s v a delivered (omega arith)) (has-none i) in
          let past : ltb x c ≡ false = le-ltb x c (omega arith) in
          rw (none, past) (and-false (ltb x (new L b (broadcast who s v) count)))
      go false e =
          same_told L b (broadcast who s v) a i x
          (ap (ltb x) (one_more L b who s v a) ∙ other (ltb x c) refl e)
          (ap not e)

-- a delivery adds its message to the log of its controller
module _ (L : Layout) (b : List ℕ) (i m : ℕ) (a : Allowed L b (deliver i m)) where
  granted : Delivers (words L b) i m
  granted = deliver_granted L (words L b) a.free

  here : i < words L b N
  here = ltb-true i (words L b N) granted.due.there

  there : m < words L b count
  there = ltb-true m (words L b count) granted.due.given

  told-deliver : (j x : ℕ) → told (new L b (deliver i m)) j x ≡ (told (words L b) j x || (eqb m x && eqb i j))
  told-deliver j x =
      ap (λ c. ltb x c && has_delivered (new L b (deliver i m)) j x) (untouched L b (deliver i m) a count tt refl)
      ∙ go (ltb x (words L b count)) refl
    where
      set : ℕ → ℕ
      set x = words L b (message x delivered)

      joins : (u : Bool) → eqb m x ≡ u → has (cond u (with (set m) i) (set x)) j ≡ (has (set x) j || (u && eqb i j))
      joins true e = has-with (set m) i j ∙ ap (λ k. has (set k) j || eqb i j) (eqb-true m x e)
      joins false e = sym (or-false (has (set x) j))

      go : (t : Bool) → ltb x (words L b count) ≡ t
          → (t && has_delivered (new L b (deliver i m)) j x)
          ≡ ((t && has_delivered (words L b) j x) || (eqb m x && eqb i j))
      go true q =
          let room : x < L.messages = omega (arith, ltb-true x (words L b count) q, a.sound.given) in
          ap (λ d. has d j) (word_after L b (deliver i m) a (message x delivered) (room, omega arith))
          ∙ joins (eqb m x) refl
      go false q =
          let past = ltb-false x (words L b count) q in
          rw (ne_eqb m x (λ e. omega (arith, there)))

  own : Log L (words L b) i → Log L (new L b (deliver i m)) i
  own h =
      let w = words L b in
      let n : ℕ = words L b (log_length i) in
      let self : eqb i i ≡ true = eq-eqb i i refl in
      let at : i < L.controllers = in_layout L b (deliver i m) a i here in
      let end : n < L.messages = omega (arith, ltb-true n (w count) granted.room, a.sound.given) in
      lists_more h
      (λ k r. word_after L b (deliver i m) a (log i k) (at, omega arith) ∙ rw (ne_eqb n k (λ q. omega arith)))
      m (omega (arith, there, a.sound.given))
      (ap (λ t. is_message w m && t) (not-true (has_delivered w i m) granted.due.new) ∙ and-false (is_message w m))
      (word_after L b (deliver i m) a (log_length i) at ∙ rw self)
      (word_after L b (deliver i m) a (log i n) (at, end) ∙ rw (eq-eqb n n refl, self))
      (λ x. told-deliver i x ∙ rw (self, and-true))

  other : (j : ℕ) → j < words L b N → eqb i j ≡ false → Log L (words L b) j → Log L (new L b (deliver i m)) j
  other j l e h =
      lists_same h
      (λ k r. word_after L b (deliver i m) a (log j k) (entry_in_layout L b (deliver i m) a j k l r)
      ∙ rw (e, and-false))
      (word_after L b (deliver i m) a (log_length j) (in_layout L b (deliver i m) a j l) ∙ rw e)
      (λ x. told-deliver j x ∙ rw (e, and-false, or-false))

-- ---- a run

logs-step : (L : Layout) (b : List ℕ) (s : Step) → Allowed L b s → Logs L b → Logs L (after L b s)
logs-step L b s a h i l = go s a (subst (λ n. i < n) (untouched L b s a N tt refl) l)
  where
    go : (s : Step) → Allowed L b s → i < words L b N → Log L (new L b s) i
    go (broadcast who s v) a l =
        still L b (broadcast who s v) a i l refl (λ k. refl) (told-broadcast L b who s v a i) (h i l)
    go (send from to m) a l = quiet L b (send from to m) a (λ k. refl) i l (h i l)
    go (receive j from m) a l = quiet L b (receive j from m) a (λ k. refl) i l (h i l)
    go (deliver j m) a l = pick (eqb j i) refl
      where
        pick : (t : Bool) → eqb j i ≡ t → Log L (new L b (deliver j m)) i
        pick true e = subst (Log L (new L b (deliver j m))) (eqb-true j i e) (own L b j m a (h j (here L b j m a)))
        pick false e = other L b j m a i l e (h i l)
    go (crash who) a l = quiet L b (crash who) a (λ k. refl) i l (h i l)
    go (detect j k) a l = quiet L b (detect j k) a (λ k. refl) i l (h i l)
    go (lose from to m) a l = quiet L b (lose from to m) a (λ k. refl) i l (h i l)

module _ (L : Layout) (n k : ℕ) (fits : is_size L n ≡ true) (known : is_mode k ≡ true) where
  logs-opened : Logs L (opened L n k)
  unfolding how_many
  logs-opened i l =
      let w = words L (opened L n k) in
      let none : w count ≡ 0 = opened-word L n k fits count tt refl in
      let at : i < L.controllers = omega (arith, (fit_opened L n k fits known).few) in
      let empty : w (log_length i) ≡ 0 = opened-word L n k fits (log_length i) at refl in
      record {
        once = λ x. rw (empty, none, le-ltb x 0 (omega arith));
        long = empty
            ∙ sym (how_many-below (has_delivered w i) 0 L.messages (omega arith))
            ∙ ap (λ c. how_many (λ x. ltb x c && has_delivered w i x) L.messages) (sym none);
      }

  logs-run : {es : List Step} {b : List ℕ} → Run (Allowed L) (after L) (opened L n k) es b → Logs L b
  logs-run r = along (λ ds b. Logs L b) (λ ds b e a h. logs-step L b e a h) logs-opened r

  pub logs_hold_broadcasts : {es : List Step} {b : List ℕ} → Run (Allowed L) (after L) (opened L n k) es b
      → LogsRight L b
  logs_hold_broadcasts {b = b} r =
      let f = fit-run L n k fits known r in
      let h = logs-run r in
      record {
        broadcast = λ i m l q. passes i m (subst (λ x. 0 < x) (log-occurs L b f i l m ∙ (h i l).once m) q);
        once = λ i m l q. log-occurs L b f i l m ∙ (h i l).once m ∙ rw (lt-ltb m (words L b count) q);
        lengths = λ i l. (h i l).long
            ∙ how_many-below (has_delivered (words L b) i) (words L b count) L.messages f.given;
      }
    where
      passes : (i m : ℕ) → 0 < cond (told (words L b) i m) 1 0 → m < words L b count
      passes i m q = go (is_message (words L b) m) refl q
        where
          go : (t : Bool) → is_message (words L b) m ≡ t → 0 < cond (t && has_delivered (words L b) i m) 1 0
              → m < words L b count
          go true e q = ltb-true m (words L b count) e
          go false e q = absurd (omega arith)

  -- so a delivery that nothing else refuses finds room
  pub delivered_room : {es : List Step} {b : List ℕ} → Run (Allowed L) (after L) (opened L n k) es b
      → (i m : ℕ) → i < words L b N → m < words L b count → has_delivered (words L b) i m ≡ false
      → words L b (log_length i) < words L b count
  delivered_room {b = b} r i m l q z =
      rw ((logs_hold_broadcasts r).lengths i l) (how_many_gap (has_delivered (words L b) i) (words L b count) m q z)
