-- What stands at a place of a file, test by test in the order of the definition; a record moves on and stays within.
use mathlib.Core.Path.{◌≡◌, refl, sym, subst}
use mathlib.Core.Bool.{Bool, true, false, cond, not, ◌&&◌, ◌||◌, false≢true}
use mathlib.Core.List.{List}
use Prim.Native.Nat.{ℕ, ◌+◌, ◌%◌, ◌≤◌, ◌<◌}
use native.Mathlib.Omega.{arith}
use lib.Dec.{eqb, leb}
use lib.ListN.{length}
use borrow.Author.Tests.{le-leb, lt-leb, leb-true, eq-eqb, ne_eqb, not-false}
use Rattle.file.specs.Records.{Found, end, bad, got, word_at, number_at, open_kind, record_length, well_cut}
use Rattle.file.specs.Records.{find_at, begun}

module _ (s : List ℕ) (i : ℕ) where
  pub finds_end : length s ≤ i → end ≡ find_at s i
  unfolding find_at
  finds_end h = rw (le-leb (length s) i h)

  module _ (here : i < length s) where
    pub finds_cut : well_cut s i ≡ false → bad 13 ≡ find_at s i
    unfolding find_at
    finds_cut e = rw (lt-leb (length s) i here, e)

    module _ (cut : well_cut s i ≡ true) (k : ℕ) (is : k ≡ word_at s (i + 2)) where
      pub finds_unknown : record_length k ≡ 0 → bad 2 ≡ find_at s i
      unfolding find_at
      finds_unknown e = rw (lt-leb (length s) i here, cut, ← is, eq-eqb _ _ e)

      pub finds_open : k ≡ open_kind → bad 2 ≡ find_at s i
      unfolding find_at record_length
      finds_open e = rw (lt-leb (length s) i here, cut, ← is, e)

      module _ (known : record_length k ≡ 0 → ⊥) (later : k ≡ open_kind → ⊥) where
        pub finds_another_length : (word_at s i ≡ record_length k → ⊥) → bad 13 ≡ find_at s i
        unfolding find_at
        finds_another_length e =
            rw (lt-leb (length s) i here, cut, ← is, ne_eqb _ _ known, ne_eqb _ _ later, ne_eqb _ _ e)

        pub finds_record : word_at s i ≡ record_length k
            → got k (number_at s i 1) (number_at s i 2) (number_at s i 3) (i + 2 + record_length k) ≡ find_at s i
        unfolding find_at
        finds_record e =
            rw (lt-leb (length s) i here, cut, ← is, ne_eqb _ _ known, ne_eqb _ _ later, e, eq-eqb _ _ refl)

-- ---- a record that is found lies within the file and moves on

-- a choice has what both its sides have
by_test : {A : Type 0} (P : A → Type 0) (t : Bool) {a b : A} → (t ≡ true → P a) → (t ≡ false → P b) → P (cond t a b)
by_test P true f g = f refl
by_test P false f g = g refl

both : (s t : Bool) → (s && t) ≡ true → (s ≡ true) × (t ≡ true)
both true t e = (refl, e)
both false t e = absurd (false≢true e)

whole : (s : List ℕ) (i : ℕ) → well_cut s i ≡ true → (i + 2 + word_at s i ≤ length s) × (4 ≤ word_at s i)
whole s i e =
    let p1 = both (leb (i + 2) (length s)) _ e in
    let p2 = both (leb (i + 2 + word_at s i) (length s)) _ p1.1 in
    let p3 = both (eqb (word_at s i % 2) 0) _ p2.1 in (leb-true _ _ p2.0, leb-true _ _ p3.1)

-- the place after a record: at least six bytes on, and within the file
pub record Next (s : List ℕ) (i j : ℕ) : Type 0 where
  pub onward : i + 6 ≤ j
  pub inside : j ≤ length s

abbrev pub Onward : List ℕ → ℕ → Found → Type 0
Onward s i end = Unit {0}
Onward s i (bad r) = Unit {0}
Onward s i (got kind x y z j) = Next s i j

pub goes_onward : (s : List ℕ) (i : ℕ) → Onward s i (find_at s i)
unfolding find_at
goes_onward s i =
    by_test (Onward s i) (leb (length s) i) (λ _. tt) λ _.
    by_test (Onward s i) (not (well_cut s i)) (λ _. tt) λ cut.
    by_test (Onward s i) (eqb (record_length (word_at s (i + 2))) 0 || eqb (word_at s (i + 2)) open_kind) (λ _. tt) λ _.
    by_test (Onward s i) (eqb (word_at s i) (record_length (word_at s (i + 2))))
    (λ _. let w = whole s i (not-false (well_cut s i) cut) in record { onward = omega arith; inside = w.0 }) λ _. tt

pub record_onward : (s : List ℕ) (i : ℕ) {kind x y z j : ℕ} → got kind x y z j ≡ find_at s i
    → Next s i j
record_onward s i e = subst (Onward s i) (sym e) (goes_onward s i)

-- ---- a file that is begun

pub begun-length : (s : List ℕ) → begun s ≡ true → (8 ≤ length s) × (length s ≤ 65536)
unfolding begun
begun-length s e =
    let p1 = both (leb (length s) 65536) _ e in
    let p2 = both (leb 8 (length s)) _ p1.1 in (leb-true _ _ p2.0, leb-true _ _ p1.0)
