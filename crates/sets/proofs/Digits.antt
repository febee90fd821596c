-- Sets by their digits: each operation of a set is one of the language's bit operations, and those go digit by digit.
use mathlib.Core.Path.{◌≡◌, refl, sym, ap, ◌∙◌}
use mathlib.Core.Bool.{Bool, true, false, cond, not, ◌&&◌, ◌||◌}
use Prim.Native.Nat.{ℕ, zero, suc, ◌+◌, ◌-◌, ◌*◌, ◌/◌, ◌%◌, ◌^◌, ◌<◌, min, max}
use native.Mathlib.Nat.{div-one, mod-lt, one-mul, pow-suc, zero-mul}
use native.Mathlib.Numerals.{one-add}
use native.Mathlib.Omega.{arith}
use lib.Dec.{eqb, lit<}
use lib.Pow.{shr-shr}
use lib.Bits.{bit_and, bit_or, and_step, or_step, and_le_l, or_add_and, and_mask, and_high}
use Rattle.sets.specs.Set.{has, with, without, all_below, cut, with_all}

pub digit_cases : (P : ℕ → Type 0) → P 0 → P 1 → (w : ℕ) → P (w % 2)
digit_cases P p q w = go (w % 2) (mod-lt w (lit< tt))
  where
    go : (x : ℕ) → x < 2 → P x
    go zero l = p
    go (suc zero) l = q
    go (suc (suc x)) l = absurd (omega arith)

pub has_low : (w : ℕ) → has w 0 ≡ eqb (w % 2) 1
unfolding has
has_low w = ap (λ x. eqb (x % 2) 1) (div-one w)

pub has_half : (w i : ℕ) → has w (suc i) ≡ has (w / 2) i
unfolding has
has_half w i = ap (λ x. eqb (x % 2) 1) (ap (λ k. w / 2 ^ k) (sym (one-add i)) ∙ sym (shr-shr w 1 i))

digit_low : (x : ℕ) (t : Bool) → eqb ((x * 2 + cond t 1 0) % 2) 1 ≡ t
digit_low x true = let e : (x * 2 + 1) % 2 ≡ 1 = omega arith in rw e
digit_low x false = let e : (x * 2 + 0) % 2 ≡ 0 = omega arith in rw e

digit_off : (x : ℕ) (t : Bool) → (x * 2 + cond t 1 0) / 2 ≡ x
digit_off x true = omega arith
digit_off x false = omega arith

-- What an operation does to two digits, by its table, it does to the members of two sets.
module _ (f d : ℕ → ℕ → ℕ) (g : Bool → Bool → Bool)
    (step : (a b : ℕ) → f a b ≡ f (a / 2) (b / 2) * 2 + d (a % 2) (b % 2))
    (table : (d 0 0 ≡ cond (g false false) 1 0) × (d 0 1 ≡ cond (g false true) 1 0)
    × (d 1 0 ≡ cond (g true false) 1 0) × (d 1 1 ≡ cond (g true true) 1 0)) where
  by_table : (a b : ℕ) → d (a % 2) (b % 2) ≡ cond (g (eqb (a % 2) 1) (eqb (b % 2) 1)) 1 0
  by_table a b =
      digit_cases (λ x. d x (b % 2) ≡ cond (g (eqb x 1) (eqb (b % 2) 1)) 1 0)
      (digit_cases (λ y. d 0 y ≡ cond (g false (eqb y 1)) 1 0) table.0 table.1 b)
      (digit_cases (λ y. d 1 y ≡ cond (g true (eqb y 1)) 1 0) table.2 table.3 b)
      a

  split : (a b : ℕ) → f a b ≡ f (a / 2) (b / 2) * 2 + cond (g (eqb (a % 2) 1) (eqb (b % 2) 1)) 1 0
  split a b = step a b ∙ ap (λ x. f (a / 2) (b / 2) * 2 + x) (by_table a b)

  by_digits : (a b j : ℕ) → has (f a b) j ≡ g (has a j) (has b j)
  by_digits a b zero = simp has_low (rw (split a b) (digit_low _ _))
  by_digits a b (suc j) = simp has_half (rw (split a b, digit_off) (by_digits (a / 2) (b / 2) j))

pub has-or : (a b j : ℕ) → has (bit_or a b) j ≡ (has a j || has b j)
has-or = by_digits bit_or max ◌||◌ or_step (refl, refl, refl, refl)

pub has-and : (a b j : ℕ) → has (bit_and a b) j ≡ (has a j && has b j)
has-and = by_digits bit_and min ◌&&◌ and_step (refl, refl, refl, refl)

-- what is left are the members of a that b lacks
less-step : (a b : ℕ) → a - bit_and a b ≡ (a / 2 - bit_and (a / 2) (b / 2)) * 2 + (a % 2 - b % 2)
less-step a b = omega (arith, and_step a b, and_le_l (a / 2) (b / 2))

pub has-less : (a b j : ℕ) → has (a - bit_and a b) j ≡ (has a j && not (has b j))
has-less = by_digits (λ a b. a - bit_and a b) ◌-◌ (λ p q. p && not q) less-step (refl, refl, refl, refl)

-- The test of a bit and what the word has of it go together: both are out, or both are in.
bit_cases : (w i : ℕ) (P : Bool → ℕ → Type 0) → P false 0 → P true (2 ^ i) → P (has w i) (bit_and w (2 ^ i))
unfolding has
bit_cases w i P off on =
    rw part (digit_cases (λ x. P (eqb x 1) (x * 2 ^ i)) (rw zero-mul off) (rw one-mul on) (w / 2 ^ i))
  where
    alone : 2 ^ (1 + i) - 2 ^ i ≡ 2 ^ i
    alone = rw one-add (omega (arith, pow-suc 2 i))

    part : bit_and w (2 ^ i) ≡ w / 2 ^ i % 2 * 2 ^ i
    part = rw alone at (and_high w 1 i)

-- ---- the operations of a set

pub with-or : (w i : ℕ) → with w i ≡ bit_or w (2 ^ i)
unfolding with
with-or w i =
    bit_cases w i (λ t x. bit_or w (2 ^ i) + x ≡ w + 2 ^ i → cond t w (w + 2 ^ i) ≡ bit_or w (2 ^ i))
    (λ e. omega arith)
    (λ e. omega arith)
    (or_add_and w (2 ^ i))

pub without-less : (w i : ℕ) → without w i ≡ w - bit_and w (2 ^ i)
unfolding without
without-less w i = bit_cases w i (λ t x. cond t (w - 2 ^ i) w ≡ w - x) (omega arith) refl

pub cut-and : (w n : ℕ) → cut w n ≡ bit_and w (all_below n)
unfolding cut all_below
cut-and w n = sym (and_mask w n)

pub with_all-or : (w n : ℕ) → with_all w n ≡ bit_or w (all_below n)
unfolding with_all
with_all-or w n = rw cut-and (omega (arith, or_add_and w (all_below n), and_le_l w (all_below n)))
