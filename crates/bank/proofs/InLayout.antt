-- All words of a record are places of the layout, opening writes only to such, and what a place holds after it.
use mathlib.Core.Path.{◌≡◌, ap, ◌∙◌}
use mathlib.Core.Bool.{true}
use mathlib.Core.List.{List, [], ◌∷◌, ◌++◌, map}
use Prim.Native.Nat.{ℕ, zero, suc, ◌+◌, ◌≤◌, ◌<◌}
use native.Mathlib.Omega.{arith}
use lib.ListN.{replicate, length-replicate, get_or-replicate}
use Rattle.bank.specs.Place.{Field, Place, ◌≔◌, acked, unsent, in_flight}
use Rattle.bank.specs.Layout.{Layout, size, address, words, up_from, fields, in_record, FieldIn, PlaceIn}
use Rattle.bank.specs.Fit.{is_size}
use Rattle.bank.specs.Opening.{views, opening, opened}
use Rattle.bank.proofs.Places.{inside}
use Rattle.bank.proofs.Reading.{AllIn, later, words-after}
use Rattle.bank.proofs.Views.{size_range}

-- ---- all words of a record

abbrev pub FieldsIn : Layout → List Field → Type 0
FieldsIn L [] = Unit {0}
FieldsIn L (f ∷ fs) = FieldIn L f × FieldsIn L fs

module _ (L : Layout) where
  join_in : (fs gs : List Field) → FieldsIn L fs → FieldsIn L gs → FieldsIn L (fs ++ gs)
  join_in [] gs h k = k
  join_in (f ∷ fs) gs h k = (h.0, join_in fs gs h.1 k)

  -- a word that each controller has
  abbrev each : (ℕ → Field) → List Field
  each f = map f (up_from 0 L.controllers)

  each_in : (f : ℕ → Field) → ((i : ℕ) → i < L.controllers → FieldIn L (f i)) → FieldsIn L (each f)
  each_in f h = go 0 L.controllers (omega arith)
    where
      go : (i k : ℕ) → i + k ≤ L.controllers → FieldsIn L (map f (up_from i k))
      go i zero l = tt
      go i (suc k) l = (h i (omega arith), go (suc i) k (omega arith))

  pub fields_in : FieldsIn L (fields L)
  unfolding fields
  fields_in =
      let one : 0 < 1 = omega arith in
      let sets =
      join_in (each acked) (each unsent ++ each in_flight) (each_in acked (λ i l. l))
      (join_in (each unsent) (each in_flight) (each_in unsent (λ i l. l)) (each_in in_flight (λ i l. l))) in
      (one, (one, (one, (one, (one, sets)))))

  pub record_in : (m : ℕ) (g : Field → ℕ) (fs : List Field) → m < L.messages → FieldsIn L fs
      → AllIn L (in_record m (map (λ f. f ≔ g f) fs))
  record_in m g [] l h = tt
  record_in m g (f ∷ fs) l h = ((l, h.0), record_in m g fs l h.1)

  -- ---- the writes of an opening

  views_in : (n i k : ℕ) → i + k ≤ L.controllers → AllIn L (views n i k)
  views_in n i zero l = tt
  views_in n i (suc k) l = (omega arith, views_in n (suc i) k (omega arith))

  pub opening_in : (n k : ℕ) → n ≤ L.controllers → AllIn L (opening n k)
  opening_in n k l = (tt, (tt, (tt, views_in n 0 n (omega arith))))

pub word-opened : (L : Layout) (n k : ℕ) → is_size L n ≡ true → (p : Place) → PlaceIn L p
    → words L (opened L n k) p ≡ later (opening n k) p 0
unfolding opened
word-opened L n k e p h =
    words-after L (replicate (size L) 0) (opening n k) p (length-replicate (size L) 0)
    (opening_in L n k (size_range L n e).1)
    h
    ∙ ap (later (opening n k) p) (get_or-replicate (size L) (address L p) 0 0 (inside L p h))
