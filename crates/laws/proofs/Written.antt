-- What the writes of a step leave in one record and in the rest: messages apart, a fresh record whole.
use mathlib.Core.Path.{◌≡◌, refl, sym, ap, ◌∙◌}
use mathlib.Core.Bool.{Bool, true, false, cond, not, ◌&&◌, and-true}
use mathlib.Core.List.{List, [], ◌∷◌, map}
use Prim.Native.Nat.{ℕ, ◌≤◌, ◌<◌}
use native.Mathlib.Nat.{lt_irrefl}
use native.Mathlib.Omega.{arith}
use lib.Dec.{eqb, ltb}
use borrow.Author.Tests.{eq-eqb, ne_eqb, ltb-true, ltb-false}
use Rattle.sets.specs.Set.{all_below}
use Rattle.bank.specs.Place.{Field, Place, Record, Write, ◌≔◌, message}
use Rattle.bank.specs.Place.{sender, stamp, value, held, delivered, acked, unsent, in_flight}
use Rattle.bank.specs.Layout.{Layout, fields, in_record, region_in, index, FieldIn}
use Rattle.group.specs.Writes.{fresh}
use Rattle.bank.proofs.Places.{Key, key, same_field}
use Rattle.bank.proofs.Reading.{later}
use Rattle.bank.proofs.Names.{record_aside, later_aside}
use Rattle.laws.proofs.Whole.{stays, record_word}
use Rattle.laws.proofs.Bridge.{later_in}

-- ---- writes in one record

-- they do not reach a place that is no message's
pub not_reached : (m : ℕ) (xs : List (Write Field)) (p : Place) (x : ℕ) → eqb 7 (key p).region ≡ false
    → later (in_record m xs) p x ≡ x
not_reached m xs p x e =
    let other : Key → Bool = λ k. not (eqb 7 k.region) in
    later_aside other (in_record m xs) p x (record_aside other m xs (λ f. refl)) (ap not e)

-- nor another message
pub other_message : (m k : ℕ) (xs : List (Write Field)) (f : Field) (x : ℕ) → eqb m k ≡ false
    → later (in_record m xs) (message k f) x ≡ x
other_message m k xs f x e =
    let other : Key → Bool = λ j. not (eqb m j.row) in
    later_aside other (in_record m xs) (message k f) x (record_aside other m xs (λ g. ap not (eq-eqb m m refl)))
    (ap not e)

-- in the message itself they are the writes in its record
pub this_message : (m : ℕ) (xs : List (Write Field)) (f : Field) (r : Record)
    → later (in_record m xs) (message m f) (r f) ≡ later_in xs r f
this_message m [] f r = refl
this_message m (y ∷ ys) f r =
    ap (λ t. later (in_record m ys) (message m f) (cond (eqb (region_in y.at) (region_in f) && t) y.word (r f))) one
    ∙ this_message m ys f (λ g. cond (same_field y.at g) y.word (r g))
  where
    one : (eqb (index y.at) (index f) && eqb m m) ≡ eqb (index y.at) (index f)
    one = ap (λ t. eqb (index y.at) (index f) && t) (eq-eqb m m refl) ∙ and-true (eqb (index y.at) (index f))

-- ---- a fresh record

-- whatever the record held within the layout; outside it held nothing, and a fresh one holds nothing there
module _ (L : Layout) (n who s v : ℕ) (r : Record) (l : who < L.controllers)
    (out : (f : Field) → (FieldIn L f → ⊥) → r f ≡ 0) where
  abbrev Fresh : Field → Type 0
  Fresh h = later (in_record 0 (map (λ f. f ≔ fresh n who s v f) (fields L))) (message 0 h) (r h) ≡ fresh n who s v h

  inside : (h : Field) → FieldIn L h → Fresh h
  inside h k = record_word L 0 (fresh n who s v) h (r h) k

  -- a word that each controller has
  of_family : (name : ℕ → Field) (a : ℕ) → (a < L.controllers → FieldIn L (name a))
      → (FieldIn L (name a) → a < L.controllers) → ((who ≡ a → ⊥) → fresh n who s v (name a) ≡ 0) → Fresh (name a)
  of_family name a into from zero-out = go (ltb a L.controllers) refl
    where
      go : (t : Bool) → ltb a L.controllers ≡ t → Fresh (name a)
      go true e = inside (name a) (into (ltb-true a L.controllers e))
      go false e =
          let far : L.controllers ≤ a = ltb-false a L.controllers e in
          let none = out (name a) (λ k. let z = from k in lt_irrefl a (omega arith)) in
          let same = none ∙ sym (zero-out (λ q. lt_irrefl a (omega arith))) in
          ap (later (in_record 0 (map (λ f. f ≔ fresh n who s v f) (fields L))) (message 0 (name a))) same
          ∙ stays 0 (fresh n who s v) (name a) (fields L)

  pub fresh-whole : (h : Field) → later_in (map (λ f. f ≔ fresh n who s v f) (fields L)) r h ≡ fresh n who s v h
  fresh-whole h = sym (this_message 0 (map (λ f. f ≔ fresh n who s v f) (fields L)) h r) ∙ go h
    where
      go : (h : Field) → Fresh h
      go sender = inside sender (omega arith)
      go stamp = inside stamp (omega arith)
      go value = inside value (omega arith)
      go held = inside held (omega arith)
      go delivered = inside delivered (omega arith)
      go (acked a) = of_family acked a (λ k. k) (λ k. k) (λ q. refl)
      go (unsent a) =
          of_family unsent a (λ k. k) (λ k. k) (λ q. ap (λ t. cond t (all_below n) 0) (ne_eqb a who (λ z. q (sym z))))
      go (in_flight a) = of_family in_flight a (λ k. k) (λ k. k) (λ q. refl)
