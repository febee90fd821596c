-- Which controllers a set has after each operation; sets that have the same are one number.
use mathlib.Core.Path.{◌≡◌, sym, ◌∙◌}
use mathlib.Core.Bool.{false, not, ◌&&◌, ◌||◌}
use Prim.Native.Nat.{ℕ, zero, suc, ◌+◌, ◌-◌, ◌/◌, ◌%◌, ◌^◌, ◌≤◌, ◌<◌, zero-le}
use native.Mathlib.Nat.{div-eq_of_lt, lt_of_lt_of_le}
use native.Mathlib.Omega.{arith}
use lib.Dec.{eqb, ltb, lit<, eqb-zero-suc, eqb-suc-zero, eqb-suc-suc, leb-zero, leb-suc-zero, leb-suc-suc}
use lib.Pow.{pow_mono, pow_pos}
use borrow.Author.Tests.{le-ltb, lt-ltb, eqb-true, eqb-false}
use Rattle.sets.specs.Set.{has, with, without, all_below, cut, with_all, join}
use Rattle.sets.proofs.Digits.{digit_cases, has_low, has_half, has-or, has-and, has-less}
use Rattle.sets.proofs.Digits.{with-or, without-less, cut-and, with_all-or}

-- ---- words alone

pub has-outside : (w k j : ℕ) → w < 2 ^ k → k ≤ j → has w j ≡ false
unfolding has
has-outside w k j h l = rw (div-eq_of_lt (lt_of_lt_of_le h (pow_mono l)))

pub has-none : (j : ℕ) → has 0 j ≡ false
has-none j = has-outside 0 0 j (lit< tt) zero-le

has_bit : (i j : ℕ) → has (2 ^ i) j ≡ eqb i j
has_bit zero zero = has_low 1
has_bit zero (suc j) = has_half 1 j ∙ has-none j ∙ sym (eqb-zero-suc j)
has_bit (suc i) zero = let e : 2 ^ suc i % 2 ≡ 0 = omega arith in rw (has_low, e, eqb-suc-zero)
has_bit (suc i) (suc j) = let e : 2 ^ suc i / 2 ≡ 2 ^ i = omega arith in rw (has_half, e, eqb-suc-suc) (has_bit i j)

pub has-all_below : (n j : ℕ) → has (all_below n) j ≡ ltb j n
unfolding all_below
has-all_below zero j = has-none j ∙ sym (leb-suc-zero j)
has-all_below (suc n) zero =
    let e : (2 ^ suc n - 1) % 2 ≡ 1 = omega (arith, pow_pos n) in rw (has_low, e, leb-suc-suc, leb-zero)
has-all_below (suc n) (suc j) =
    let e : (2 ^ suc n - 1) / 2 ≡ 2 ^ n - 1 = omega (arith, pow_pos n) in
    rw (has_half, e, leb-suc-suc) (has-all_below n j)

-- two words that have the same members are one number
same_digit : (u w : ℕ) → has u 0 ≡ has w 0 → u % 2 ≡ w % 2
same_digit u w e =
    digit_cases (λ x. eqb x 1 ≡ eqb (w % 2) 1 → x ≡ w % 2)
    (λ q. omega (arith, eqb-false (w % 2) 1 (sym q)))
    (λ q. sym (eqb-true (w % 2) 1 (sym q)))
    u
    (sym (has_low u) ∙ e ∙ has_low w)

pub same_members : (u w : ℕ) → ((j : ℕ) → has u j ≡ has w j) → u ≡ w
same_members u w = go (u + w) u w (omega arith)
  where
    go : (k u w : ℕ) → u + w ≤ k → ((j : ℕ) → has u j ≡ has w j) → u ≡ w
    go zero u w l h = omega arith
    go (suc k) u w l h =
        omega (
          arith,
          same_digit u w (h 0),
          go k (u / 2) (w / 2) (omega arith) (λ j. sym (has_half u j) ∙ h (suc j) ∙ has_half w j),
        )

-- ---- members after an operation

pub has-with : (w i j : ℕ) → has (with w i) j ≡ (has w j || eqb i j)
has-with w i j = rw (with-or, has-or, has_bit)

pub has-without : (w i j : ℕ) → has (without w i) j ≡ (has w j && not (eqb i j))
has-without w i j = rw (without-less, has-less, has_bit)

pub has-with_all : (w n j : ℕ) → has (with_all w n) j ≡ (has w j || ltb j n)
has-with_all w n j = rw (with_all-or, has-or, has-all_below)

pub has-cut : (w n j : ℕ) → has (cut w n) j ≡ (has w j && ltb j n)
has-cut w n j = rw (cut-and, has-and, has-all_below)

-- ---- a word of sixteen bits

pub join-with : (w i : ℕ) → i < 16 → join w i ≡ with w i
unfolding join
join-with w i l = rw (lt-ltb i 16 l)

pub join-outside : (w i : ℕ) → 16 ≤ i → join w i ≡ w
unfolding join
join-outside w i l = rw (le-ltb i 16 l)
