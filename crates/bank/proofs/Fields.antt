-- A record written field by field is the list of its words; one word over zeros.
use mathlib.Core.Path.{◌≡◌, refl, sym, ap, ap₂, subst, ◌∙◌}
use mathlib.Core.Bool.{cond}
use mathlib.Core.List.{List, [], ◌∷◌, ◌++◌, map, append-nil}
use Prim.Native.Nat.{ℕ, zero, suc, ◌+◌, ◌≤◌, ◌<◌}
use native.Mathlib.Nat.{add-zero}
use native.Mathlib.Omega.{arith}
use lib.Dec.{eqb}
use lib.ListN.{length, set, replicate, drop_of_length-le, length-append, length-map}
use lib.Seq.{sets, sets-eq}
use borrow.Author.Tests.{eq-eqb, ne_eqb}
use Rattle.bank.specs.Place.{Field, ◌≔◌, acked, unsent, in_flight}
use Rattle.bank.specs.Layout.{Layout, start, record_widths, record_size, offset, puts, up_from, fields}
use Rattle.bank.proofs.Lending.{Below}

-- ---- field by field is word after word

-- names that stand one after another from i on
abbrev Rising : (Field → ℕ) → ℕ → List Field → Type 0
Rising at i [] = Unit {0}
Rising at i (f ∷ fs) = (at f ≡ i) × Rising at (suc i) fs

puts_rising : (at : Field → ℕ) (g : Field → ℕ) (fs : List Field) (i : ℕ) (r : List ℕ) → Rising at i fs
    → puts at r (map (λ f. f ≔ g f) fs) ≡ sets r i (map g fs)
puts_rising at g [] i r h = refl
puts_rising at g (f ∷ fs) i r h =
    ap (λ k. puts at (set r k (g f)) (map (λ f. f ≔ g f) fs)) h.0 ∙ puts_rising at g fs (suc i) (set r i (g f))
    h.1

rising_append : (at : Field → ℕ) (fs gs : List Field) (i j : ℕ) → i + length fs ≡ j → Rising at i fs → Rising at j gs
    → Rising at i (fs ++ gs)
rising_append at [] gs i j e h k = subst (λ x. Rising at x gs) (sym e ∙ add-zero i) k
rising_append at (f ∷ fs) gs i j e h k = (h.0, rising_append at fs gs (suc i) j (omega arith) h.1 k)

-- the words that each controller has
rising_family : (at : Field → ℕ) (base : ℕ) (name : ℕ → Field) → ((i : ℕ) → at (name i) ≡ base + i)
    → (k i j : ℕ) → base + i ≡ j → Rising at j (map name (up_from i k))
rising_family at base name h zero i j e = tt
rising_family at base name h (suc k) i j e = (h i ∙ e, rising_family at base name h k (suc i) (suc j) (omega arith))

length_family : (name : ℕ → Field) (k i : ℕ) → length (map name (up_from i k)) ≡ k
length_family name zero i = refl
length_family name (suc k) i = ap suc (length_family name k (suc i))

fields_rise : (L : Layout) → Rising (offset L) 0 (fields L)
unfolding fields
fields_rise L =
    let n : ℕ = L.controllers in
    let at : ℕ → ℕ = λ r. start r (record_widths L) in (
      refl,
      (
        refl,
        (
          refl,
          (
            refl,
            (
              refl,
              rising_append (offset L) (map acked (up_from 0 n)) _ 5 (5 + n) (ap (λ x. 5 + x) (length_family acked n 0))
                  (rising_family (offset L) (at 5) acked (λ i. refl) n 0 5 refl)
                  (rising_append (offset L) (map unsent (up_from 0 n)) _ (5 + n) (5 + n + n)
                  (ap (λ x. 5 + n + x) (length_family unsent n 0))
                  (rising_family (offset L) (at 6) unsent (λ i. refl) n 0 (5 + n) (omega arith))
                  (rising_family (offset L) (at 7) in_flight (λ i. refl) n 0 (5 + n + n) (omega arith))),
            ),
          ),
        ),
      ),
    )

pub length_fields : (L : Layout) → length (fields L) ≡ record_size L
unfolding fields
length_fields L =
    let n : ℕ = L.controllers in
    omega (
      arith,
      length-append (map acked (up_from 0 n)) (map unsent (up_from 0 n) ++ map in_flight (up_from 0 n)),
      length-append (map unsent (up_from 0 n)) (map in_flight (up_from 0 n)),
      length_family acked n 0,
      length_family unsent n 0,
      length_family in_flight n 0,
    )

-- a record written field by field is the list of its words, whatever it held
pub whole_record : (L : Layout) (g : Field → ℕ) (r : List ℕ) → length r ≡ record_size L
    → puts (offset L) r (map (λ f. f ≔ g f) (fields L)) ≡ map g (fields L)
whole_record L g r e =
    let l : length (map g (fields L)) ≡ length r = length-map (fields L) g ∙ length_fields L ∙ sym e in
    puts_rising (offset L) g (fields L) 0 r (fields_rise L)
    ∙ sets-eq (map g (fields L)) r 0 (omega arith)
    ∙ ap (λ x. map g (fields L) ++ x) (drop_of_length-le r {i = 0 + length (map g (fields L))} (omega arith))
    ∙ append-nil (map g (fields L))

-- every word of the record stands within it
rising_below : (at : Field → ℕ) (g : Field → ℕ) (fs : List Field) (i k : ℕ) → i + length fs ≤ k → Rising at i fs
    → Below at k (map (λ f. f ≔ g f) fs)
rising_below at g [] i k l h = tt
rising_below at g (f ∷ fs) i k l h = (omega (arith, h.0), rising_below at g fs (suc i) k (omega arith) h.1)

pub fields-below : (L : Layout) (g : Field → ℕ) (k : ℕ) → record_size L ≤ k
    → Below (offset L) k (map (λ f. f ≔ g f) (fields L))
fields-below L g k l = rising_below (offset L) g (fields L) 0 k (omega (arith, length_fields L)) (fields_rise L)

-- ---- words over zeros

-- one word of a run of zeros
pub one_word : (x : ℕ) (k i w : ℕ) → w < k → set (replicate k 0) w x ≡ map (λ j. cond (eqb j (i + w)) x 0) (up_from i k)
one_word x zero i w h = absurd (omega arith)
one_word x (suc k) i zero h =
    ap₂ (λ a l. a ∷ l) (sym (rw (eq-eqb i (i + 0) (sym (add-zero i))) refl)) (no_word k (suc i) (omega arith))
  where
    no_word : (k j : ℕ) → i + 0 < j → replicate k 0 ≡ map (λ j. cond (eqb j (i + 0)) x 0) (up_from j k)
    no_word zero j l = refl
    no_word (suc k) j l =
        ap₂ (λ a l. a ∷ l) (sym (rw (ne_eqb j (i + 0) (λ e. omega arith)) refl)) (no_word k (suc j) (omega arith))
one_word x (suc k) i (suc w) h =
    ap₂ (λ a l. a ∷ l) (sym (rw (ne_eqb i (i + suc w) (λ e. omega arith)) refl))
    (one_word x k (suc i) w (omega arith)
    ∙ ap (λ n. map (λ j. cond (eqb j n) x 0) (up_from (suc i) k)) (let e : suc i + w ≡ i + suc w = omega arith in e))

-- a word of each controller that is 0
pub zeros : (g : Field → ℕ) (name : ℕ → Field) (k i : ℕ) → ((j : ℕ) → g (name j) ≡ 0)
    → replicate k 0 ≡ map g (map name (up_from i k))
zeros g name zero i h = refl
zeros g name (suc k) i h = ap₂ (λ a l. a ∷ l) (sym (h i)) (zeros g name k (suc i) h)
