-- Reading by name after writing by name: one law for every list of writes and every layout.
use mathlib.Core.Path.{◌≡◌, refl, sym, ap, ◌∙◌}
use mathlib.Core.Bool.{Bool, true, false, cond}
use mathlib.Core.List.{List, [], ◌∷◌, ◌++◌}
use Prim.Native.Nat.{ℕ, ◌<◌}
use native.Mathlib.Omega.{arith}
use lib.Dec.{eqb}
use lib.ListN.{length, get_or, set, length-set}
use lib.Seq.{get_or-set_same, get_or-set_other}
use borrow.Author.Tests.{eqb-true, eqb-false}
use Rattle.bank.specs.Place.{Place, Write}
use Rattle.bank.specs.Layout.{Layout, size, address, puts, words, PlaceIn}
use Rattle.bank.proofs.Places.{same_place, same_address, inside}

-- what a place holds after some writes, if it held x before
abbrev pub later : List (Write Place) → Place → ℕ → ℕ
later [] p x = x
later (y ∷ ys) p x = later ys p (cond (same_place y.at p) y.word x)

-- every write is to a place that the layout has
abbrev pub AllIn : Layout → List (Write Place) → Type 0
AllIn L [] = Unit {0}
AllIn L (y ∷ ys) = PlaceIn L y.at × AllIn L ys

pub length-puts : {A : Type 0} (at : A → ℕ) (b : List ℕ) (ys : List (Write A)) → length (puts at b ys) ≡ length b
length-puts at b [] = refl
length-puts at b (y ∷ ys) = length-puts at (set b (at y.at) y.word) ys ∙ length-set b (at y.at) y.word

-- one word written: it is read there, and every other as before
read_set : (b : List ℕ) (i j v : ℕ) → i < length b → get_or (set b i v) j 0 ≡ cond (eqb i j) v (get_or b j 0)
read_set b i j v h = go (eqb i j) refl
  where
    go : (t : Bool) → eqb i j ≡ t → get_or (set b i v) j 0 ≡ cond t v (get_or b j 0)
    go true e = ap (λ k. get_or (set b i v) k 0) (sym (eqb-true i j e)) ∙ get_or-set_same b i v 0 h
    go false e = get_or-set_other b i j v 0 (λ q. eqb-false i j e (sym q))

module _ (L : Layout) where
  one_write : (b : List ℕ) (p q : Place) (v : ℕ) → length b ≡ size L → PlaceIn L p → PlaceIn L q
      → words L (set b (address L p) v) q ≡ cond (same_place p q) v (words L b q)
  one_write b p q v l hp hq =
      read_set b (address L p) (address L q) v (omega (arith, l, inside L p hp))
      ∙ ap (λ t. cond t v (words L b q)) (same_address L p q hp hq)

  pub words-after : (b : List ℕ) (ys : List (Write Place)) (p : Place) → length b ≡ size L → AllIn L ys → PlaceIn L p
      → words L (puts (address L) b ys) p ≡ later ys p (words L b p)
  words-after b [] p l h hp = refl
  words-after b (y ∷ ys) p l h hp =
      words-after (set b (address L y.at) y.word) ys p (length-set b _ _ ∙ l) h.1 hp
      ∙ ap (later ys p) (one_write b y.at p y.word l h.0 hp)

-- ---- joined lists of writes

pub puts-append : {A : Type 0} (at : A → ℕ) (b : List ℕ) (xs ys : List (Write A))
    → puts at b (xs ++ ys) ≡ puts at (puts at b xs) ys
puts-append at b [] ys = refl
puts-append at b (x ∷ xs) ys = puts-append at (set b (at x.at) x.word) xs ys

pub later_append : (xs ys : List (Write Place)) (p : Place) (x : ℕ) → later (xs ++ ys) p x ≡ later ys p (later xs p x)
later_append [] ys p x = refl
later_append (y ∷ xs) ys p x = later_append xs ys p _

pub in_append : (L : Layout) (xs ys : List (Write Place)) → AllIn L xs → AllIn L ys → AllIn L (xs ++ ys)
in_append L [] ys h k = k
in_append L (y ∷ xs) ys h k = (h.0, in_append L xs ys h.1 k)
