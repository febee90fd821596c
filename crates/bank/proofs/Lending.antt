-- A part of a list that is lent, written by itself and put back: the same as writing in the whole.
use mathlib.Core.Path.{◌≡◌, refl, sym, ap, ◌∙◌}
use mathlib.Core.List.{List, [], ◌∷◌, ◌++◌}
use Prim.Native.Nat.{ℕ, ◌+◌, ◌≤◌, ◌<◌}
use native.Mathlib.Nat.{zero-add, suc-add}
use native.Mathlib.Omega.{arith}
use lib.ListN.{length, get_or, set, take, drop, length-set, length-drop, take-append-drop}
use lib.Seq.{set-append_left, length-take-le, get_or-take, get_or-drop}
use Rattle.bank.specs.Place.{Field, Record, record_of, Write}
use Rattle.bank.specs.Layout.{Layout, size, puts, words, address, offset, record_at, record_size, in_record}
use Rattle.bank.specs.Layout.{changed, record_words, with_record, FieldIn}
use Rattle.bank.proofs.Places.{offset-below, record_inside}

-- xs with ys in the place of its k elements from a on
abbrev pub graft : ℕ → ℕ → List ℕ → List ℕ → List ℕ
graft a k xs ys = take a xs ++ (ys ++ drop k (drop a xs))

abbrev pub part : ℕ → ℕ → List ℕ → List ℕ
part a k xs = take k (drop a xs)

-- every write stands within k
abbrev pub Below : {A : Type 0} → (A → ℕ) → ℕ → List (Write A) → Type 0
Below at k [] = Unit {0}
Below at k (y ∷ ys) = (at y.at < k) × Below at k ys

pub set-append-add : (xs ys : List ℕ) (n v : ℕ) → set (xs ++ ys) (length xs + n) v ≡ xs ++ set ys n v
set-append-add [] ys n v = ap (λ j. set ys j v) (zero-add n)
set-append-add (x ∷ xs) ys n v =
    ap (λ j. set (x ∷ (xs ++ ys)) j v) (suc-add (length xs) n) ∙ ap (λ r. x ∷ r) (set-append-add xs ys n v)

module _ (a k : ℕ) (xs : List ℕ) (fits : a + k ≤ length xs) where
  pub part_length : length (part a k xs) ≡ k
  part_length = length-take-le k (drop a xs) (rw length-drop (omega arith))

  pub part_word : (i : ℕ) → i < k → get_or (part a k xs) i 0 ≡ get_or xs (a + i) 0
  part_word i h = get_or-take k (drop a xs) i 0 h ∙ get_or-drop a xs i 0

  graft_part : graft a k xs (part a k xs) ≡ xs
  graft_part = ap (λ r. take a xs ++ r) (take-append-drop k (drop a xs)) ∙ take-append-drop a xs

  graft_set : (ys : List ℕ) (p v : ℕ) → p < length ys → graft a k xs (set ys p v) ≡ set (graft a k xs ys) (a + p) v
  graft_set ys p v h =
      ap (λ r. take a xs ++ r) (sym (set-append_left ys (drop k (drop a xs)) p v h))
      ∙ sym (set-append-add (take a xs) (ys ++ drop k (drop a xs)) p v)
      ∙ ap (λ j. set (graft a k xs ys) (j + p) v) (length-take-le a xs (omega arith))

  graft_puts : {A : Type 0} (at : A → ℕ) (ys : List ℕ) (ws : List (Write A)) → length ys ≡ k → Below at k ws
      → graft a k xs (puts at ys ws) ≡ puts (λ p. a + at p) (graft a k xs ys) ws
  graft_puts at ys [] l h = refl
  graft_puts at ys (w ∷ ws) l h =
      graft_puts at (set ys (at w.at) w.word) ws (length-set ys _ _ ∙ l) h.1
      ∙ ap (λ r. puts (λ p. a + at p) r ws) (graft_set ys (at w.at) w.word (omega (arith, l, h.0)))

  pub part_puts : {A : Type 0} (at : A → ℕ) (ws : List (Write A)) → Below at k ws
      → graft a k xs (puts at (part a k xs) ws) ≡ puts (λ p. a + at p) xs ws
  part_puts at ws h = graft_puts at (part a k xs) ws part_length h ∙ ap (λ r. puts (λ p. a + at p) r ws) graft_part

-- in a record lent from the bank
pub puts-in_record : (L : Layout) (m : ℕ) (b : List ℕ) (ws : List (Write Field))
    → puts (λ f. record_at L m + offset L f) b ws ≡ puts (address L) b (in_record m ws)
puts-in_record L m b [] = refl
puts-in_record L m b (w ∷ ws) = puts-in_record L m (set b (record_at L m + offset L w.at) w.word) ws

-- ---- a record lent whole

-- a change that rests on no word but those of the layout, and stands within the record
pub record Change (L : Layout) (change : Record → List (Write Field)) : Type 0 where
  pub rests : (g h : Record) → ((f : Field) → FieldIn L f → g f ≡ h f) → change g ≡ change h
  pub within : (r : Record) → Below (offset L) (record_size L) (change r)

-- a record that is there lies in the bank
pub record-within : (L : Layout) (b : List ℕ) (m : ℕ) → length b ≡ size L → m < L.messages
    → record_at L m + record_size L ≤ length b
record-within L b m whole there = rw whole (record_inside L m there)

module _ (L : Layout) (b : List ℕ) (m : ℕ) (inside : record_at L m + record_size L ≤ length b) where
  -- written by itself and put back: the change is in the bank
  pub lent_whole : {left b' : List ℕ} (change : Record → List (Write Field)) → Change L change
      → b' ≡ with_record L b m left → left ≡ changed L change (record_words L b m)
      → b' ≡ puts (address L) b (in_record m (change (record_of (words L b) m)))
  lent_whole change known put does =
      let a : ℕ = record_at L m in
      let k : ℕ = record_size L in
      let new = change (record_of (words L b) m) in
      put
      ∙ ap (with_record L b m) does
      ∙ ap (λ ws. with_record L b m (puts (offset L) (record_words L b m) ws))
      (known.rests _ _ (λ f h. part_word a k b inside (offset L f) (offset-below L f h)))
      ∙ part_puts a k b inside (offset L) new (known.within _)
      ∙ puts-in_record L m b new
