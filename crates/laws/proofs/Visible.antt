-- The words of a bank as one function of places, 0 where the layout has none: a step is then its writes, and no more.
use mathlib.Core.Path.{◌≡◌, refl, sym, ap, ap₂, fun_ext, ◌∙◌}
use mathlib.Core.Bool.{Bool, true, false, cond, ◌&&◌, true≢false}
use mathlib.Core.List.{List, [], ◌∷◌, ◌++◌}
use Prim.Native.Nat.{ℕ, ◌+◌, ◌<◌}
use native.Mathlib.Omega.{arith}
use lib.Dec.{ltb}
use lib.ListN.{get_or}
use borrow.Author.Tests.{lt-ltb, ltb-true}
use Rattle.sets.proofs.Tests.{both}
use Rattle.bank.specs.Place.{Field, Place, Words, record_of, Write, ◌≔◌, held, delivered, acked, unsent, in_flight, N}
use Rattle.bank.specs.Place.{mode, count, up, view, log_length, log, message}
use Rattle.bank.specs.Layout.{Layout, record_widths, words, in_record, region_in, index, PlaceIn, FieldIn}
use Rattle.refusals.specs.Step.{Step, broadcast, send, receive, deliver, crash, detect, lose}
use Rattle.group.specs.Writes.{fresh_record, writes}
use Rattle.refusals.specs.Promises.{Allowed}
use Rattle.group.specs.Promises.{after}
use Rattle.bank.proofs.Places.{Key, key, same_place}
use Rattle.bank.proofs.Reading.{later, AllIn, words-after}
use Rattle.refusals.proofs.Granted.{send_granted, receive_granted, deliver_granted, detect_granted, lose_granted}
use Rattle.refusals.proofs.Bounds.{controller_below, message-below, ends-below}
use Rattle.group.proofs.WritesIn.{writes_in}
use Rattle.bank.proofs.Names.{one_name}

-- ---- whether a layout has a place, by its key

module _ (L : Layout) where
  abbrev key_in : Key → Bool
  key_in k =
      ltb k.index
      (get_or
      (get_or
      ((1 ∷ [])
      ∷ (1 ∷ [])
      ∷ (1 ∷ [])
      ∷ (1 ∷ [])
      ∷ (L.controllers ∷ [])
      ∷ (L.controllers ∷ [])
      ∷ (L.messages ∷ [])
      ∷ record_widths L
      ∷ [])
      k.region [])
      k.run 0)
      && ltb k.row (get_or (1 ∷ 1 ∷ 1 ∷ 1 ∷ 1 ∷ 1 ∷ L.controllers ∷ L.messages ∷ []) k.region 0)

  both_below : (i n j m : ℕ) → i < n → j < m → (ltb i n && ltb j m) ≡ true
  both_below i n j m h k = rw (lt-ltb i n h, lt-ltb j m k)

  pub in_key : (p : Place) → PlaceIn L p → key_in (key p) ≡ true
  in_key N h = refl
  in_key mode h = refl
  in_key count h = refl
  in_key up h = refl
  in_key (view i) h = both_below i _ 0 1 h (omega arith)
  in_key (log_length i) h = both_below i _ 0 1 h (omega arith)
  in_key (log i k) h = both_below k _ i _ h.1 h.0
  in_key (message m f) h = both_below (index f) _ m _ h.1 h.0

  PlaceIn-key_in : (p : Place) → key_in (key p) ≡ true → PlaceIn L p
  PlaceIn-key_in N h = tt
  PlaceIn-key_in mode h = tt
  PlaceIn-key_in count h = tt
  PlaceIn-key_in up h = tt
  PlaceIn-key_in (view i) h = ltb-true _ _ (both _ _ h).0
  PlaceIn-key_in (log_length i) h = ltb-true _ _ (both _ _ h).0
  PlaceIn-key_in (log i k) h = let z = both _ _ h in (ltb-true _ _ z.1, ltb-true _ _ z.0)
  PlaceIn-key_in (message m f) h = let z = both _ _ h in (ltb-true _ _ z.1, ltb-true _ _ z.0)

  -- one place, one answer
  same_in : (p q : Place) → same_place p q ≡ true → key_in (key p) ≡ key_in (key q)
  same_in p q e = ap (λ r. key_in (key r)) (one_name p q e)

  -- ---- what is seen of the words

  unfoldable pub visible : Words → Words
  visible w p = cond (key_in (key p)) (w p) 0

  pub seen_in : (w : Words) (p : Place) → PlaceIn L p → visible w p ≡ w p
  unfolding visible
  seen_in w p h = rw (in_key p h)

  pub seen_out : (w : Words) (p : Place) → key_in (key p) ≡ false → visible w p ≡ 0
  unfolding visible
  seen_out w p h = rw h

  pub seen_nothing : (p : Place) → visible (λ p. 0) p ≡ 0
  unfolding visible
  seen_nothing p = go (key_in (key p))
    where
      go : (t : Bool) → ◌≡◌ {A = ℕ} (cond t 0 0) 0
      go true = refl
      go false = refl

  pub seen-outside : (w : Words) (m : ℕ) (f : Field) → (FieldIn L f → ⊥) → visible w (message m f) ≡ 0
  seen-outside w m f h = seen_out w (message m f) (go (ltb (index f) (get_or (record_widths L) (region_in f) 0)) refl)
    where
      go : (t : Bool) → ltb (index f) (get_or (record_widths L) (region_in f) 0) ≡ t → (t && ltb m L.messages) ≡ false
      go true e = absurd (h (ltb-true (index f) _ e))
      go false e = refl

  pub seen_same : (w v : Words) → ((p : Place) → PlaceIn L p → w p ≡ v p) → visible w ≡ visible v
  unfolding visible
  seen_same w v h = fun_ext (λ p. go p (key_in (key p)) refl)
    where
      go : (p : Place) (t : Bool) → key_in (key p) ≡ t → cond t (w p) 0 ≡ cond t (v p) 0
      go p true e = h p (PlaceIn-key_in p e)
      go p false e = refl

  -- writes to places of the layout do not reach others
  out_of_reach : (ys : List (Write Place)) (p : Place) (x : ℕ) → AllIn L ys → key_in (key p) ≡ false → later ys p x ≡ x
  out_of_reach [] p x h e = refl
  out_of_reach (y ∷ ys) p x h e = out_of_reach ys p _ h.1 e ∙ go (same_place y.at p) refl
    where
      go : (t : Bool) → same_place y.at p ≡ t → cond t y.word x ≡ x
      go true q = absurd (true≢false (sym (in_key y.at h.0) ∙ same_in y.at p q ∙ e))
      go false q = refl

  pub seen_later : (w : Words) (ys : List (Write Place)) → AllIn L ys
      → visible (λ p. later ys p (w p)) ≡ (λ p. later ys p (visible w p))
  unfolding visible
  seen_later w ys h = fun_ext (λ p. go p (key_in (key p)) refl)
    where
      go : (p : Place) (t : Bool) → key_in (key p) ≡ t → cond t (later ys p (w p)) 0 ≡ later ys p (cond t (w p) 0)
      go p true e = refl
      go p false e = sym (out_of_reach ys p 0 h e)

  -- ---- a step

  -- what a step writes rests on places that the layout has
  pub seen-writes : (b : List ℕ) (s : Step) → Allowed L b s
      → writes L (words L b) s ≡ writes L (visible (words L b)) s
  seen-writes b (broadcast who s v) a =
      sym (ap₂ (λ n m. new n m) (seen_in (words L b) N tt) (seen_in (words L b) count tt))
    where
      new : ℕ → ℕ → List (Write Place)
      new n m = in_record m (fresh_record L n who s v (record_of (words L b) m)) ++ (count ≔ (m + 1) ∷ [])
  seen-writes b (send from to m) a =
      let e = ends-below L b a.sound (send_granted L (words L b) a.free).ends in
      sym
      (rw (
        seen_in (words L b) (message m (unsent from)) (e.message, e.first),
        seen_in (words L b) (message m (in_flight to)) (e.message, e.second),
      )
      refl)
  seen-writes b (receive i from m) a =
      let e = ends-below L b a.sound (receive_granted L (words L b) a.free).ends in
      let here : (f : Field) → FieldIn L f → visible (words L b) (message m f) ≡ words L b (message m f) =
      λ f h. seen_in (words L b) (message m f) (e.message, h) in
      sym
      (rw (
        here (in_flight i) e.first,
        here (acked i) e.first,
        here held (omega arith),
        here (unsent i) e.first,
        seen_in (words L b) N tt,
      )
      refl)
  seen-writes b (deliver i m) a =
      let g = deliver_granted L (words L b) a.free in
      let j = controller_below L b a.sound i g.due.there in
      let k = message-below L b a.sound m g.due.given in
      sym
      (rw (
        seen_in (words L b) (message m delivered) (k, omega arith),
        seen_in (words L b) (log_length i) j,
      )
      refl)
  seen-writes b (crash who) a = sym (rw (seen_in (words L b) up tt) refl)
  seen-writes b (detect i j) a =
      let g = detect_granted L (words L b) a.free in
      sym (rw (seen_in (words L b) (view i) (controller_below L b a.sound i g.first)) refl)
  seen-writes b (lose from to m) a =
      let e = ends-below L b a.sound (lose_granted L (words L b) a.free).ends in
      sym (rw (seen_in (words L b) (message m (in_flight to)) (e.message, e.second)) refl)

  pub seen_after : (b : List ℕ) (s : Step) → Allowed L b s
      → visible (words L (after L b s)) ≡ (λ p. later (writes L (visible (words L b)) s) p (visible (words L b) p))
  seen_after b s a =
      let i = writes_in L b s a in
      seen_same (words L (after L b s)) (λ p. later (writes L (words L b) s) p (words L b p))
      (λ p h. words-after L b (writes L (words L b) s) p a.sound.whole i h)
      ∙ seen_later (words L b) (writes L (words L b) s) i
      ∙ ap (λ ys. λ p. later ys p (visible (words L b) p)) (seen-writes b s a)
