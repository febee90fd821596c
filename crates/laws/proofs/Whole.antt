-- A record written whole holds, word by word, what it is to hold.
use mathlib.Core.Path.{◌≡◌, refl, sym, ap, ◌∙◌}
use mathlib.Core.Logic.{⊎_elim}
use mathlib.Core.Bool.{Bool, true, false, cond}
use mathlib.Core.List.Memᴰ
use mathlib.Core.List.{List, [], ◌∷◌, ◌++◌, map, Memᴰ}
use Prim.Native.Nat.{ℕ, zero, suc, ◌+◌, ◌≤◌, ◌<◌}
use native.Mathlib.Nat.{eq-or-lt_of_le}
use native.Mathlib.Omega.{arith}
use borrow.Author.Tests.{eq-eqb}
use Rattle.bank.specs.Place.{Field, Place, Write, ◌≔◌, N, mode, count, up, view, log_length, log}
use Rattle.bank.specs.Place.{message, sender, stamp}
use Rattle.bank.specs.Place.{value, held, delivered, acked, unsent, in_flight}
use Rattle.bank.specs.Layout.{Layout, up_from, fields, in_record, FieldIn, region_in, index}
use Rattle.bank.proofs.Places.{same_place}
use Rattle.bank.proofs.Names.{one_name}
use Rattle.bank.proofs.Reading.{later}

-- the word of a record that a place names
field_of : Place → Field
field_of N = sender
field_of mode = sender
field_of count = sender
field_of up = sender
field_of (view i) = sender
field_of (log_length i) = sender
field_of (log i k) = sender
field_of (message m f) = f

one_field : (c : ℕ) (f g : Field) → same_place (message c f) (message c g) ≡ true → f ≡ g
unfolding field_of
one_field c f g e = ap field_of (one_name (message c f) (message c g) e)

-- ---- a record written whole

module _ (c : ℕ) (g : Field → ℕ) (f : Field) where
  abbrev whole : List Field → List (Write Place)
  whole fs = in_record c (map (λ (h : Field). h ≔ g h) fs)

  -- a word that is as it is to be stays so, whatever else is written
  pub stays : (fs : List Field) → later (whole fs) (message c f) (g f) ≡ g f
  stays [] = refl
  stays (h ∷ fs) = ap (later (whole fs) (message c f)) (go (same_place (message c h) (message c f)) refl) ∙ stays fs
    where
      go : (t : Bool) → same_place (message c h) (message c f) ≡ t → cond t (g h) (g f) ≡ g f
      go true e = ap g (one_field c h f e)
      go false e = refl

  written : (fs : List Field) (x : ℕ) → Memᴰ f fs → later (whole fs) (message c f) x ≡ g f
  written [] x m = absurd (Memᴰ.not-nil m)
  written (h ∷ fs) x m = ⊎_elim here (written fs _) (Memᴰ.cases_cons m)
    where
      here : f ≡ h → later (whole (h ∷ fs)) (message c f) x ≡ g f
      here e =
          let self : same_place (message c f) (message c f) ≡ true =
          rw (eq-eqb (region_in f) (region_in f) refl, eq-eqb (index f) (index f) refl, eq-eqb c c refl) in
          ap (λ q. later (whole fs) (message c f) (cond (same_place (message c q) (message c f)) (g q) x)) (sym e)
          ∙ rw self (stays fs)

-- ---- all words of a record

module _ (L : Layout) where
  abbrev each : (ℕ → Field) → List Field
  each name = map name (up_from 0 L.controllers)

  in_each : (name : ℕ → Field) (i : ℕ) → i < L.controllers → Memᴰ (name i) (each name)
  in_each name i h = go L.controllers 0 (omega arith) (omega arith)
    where
      go : (k j : ℕ) → j ≤ i → i < j + k → Memᴰ (name i) (map name (up_from j k))
      go zero j l h = absurd (omega arith)
      go (suc k) j l h =
          ⊎_elim (λ e. Memᴰ.head (ap name (sym e))) (λ q. Memᴰ.tail (go k (suc j) q (omega arith)))
          (eq-or-lt_of_le l)

  -- the five words that a record has once
  abbrev single : List Field
  single = sender ∷ stamp ∷ value ∷ held ∷ delivered ∷ []

  in_fields : (f : Field) → FieldIn L f → Memᴰ f (fields L)
  unfolding fields
  in_fields sender h = Memᴰ.head refl
  in_fields stamp h = Memᴰ.tail (Memᴰ.head refl)
  in_fields value h = Memᴰ.tail (Memᴰ.tail (Memᴰ.head refl))
  in_fields held h = Memᴰ.tail (Memᴰ.tail (Memᴰ.tail (Memᴰ.head refl)))
  in_fields delivered h = Memᴰ.tail (Memᴰ.tail (Memᴰ.tail (Memᴰ.tail (Memᴰ.head refl))))
  in_fields (acked i) h =
      Memᴰ.append_right single (Memᴰ.append_left (each unsent ++ each in_flight) (in_each acked i h))
  in_fields (unsent i) h =
      Memᴰ.append_right single (Memᴰ.append_right (each acked) (Memᴰ.append_left (each in_flight) (in_each unsent i h)))
  in_fields (in_flight i) h =
      Memᴰ.append_right single
      (Memᴰ.append_right (each acked) (Memᴰ.append_right (each unsent) (in_each in_flight i h)))

  pub record_word : (c : ℕ) (g : Field → ℕ) (f : Field) (x : ℕ) → FieldIn L f
      → later (in_record c (map (λ h. h ≔ g h) (fields L))) (message c f) x ≡ g f
  record_word c g f x h = written c g f (fields L) x (in_fields f h)
