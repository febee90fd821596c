-- Sums of one number for each i below n.
use mathlib.Core.Path.{◌≡◌}
use mathlib.Core.Bool.{Bool, true, false, cond, ◌&&◌}
use mathlib.Core.Logic.{⊎_elim}
use Prim.Native.Nat.{ℕ, zero, suc, ◌+◌, ◌*◌, ◌≤◌, ◌<◌}
use native.Mathlib.Nat.{eq-or-lt_of_le, le_of_suc-le-suc}
use native.Mathlib.Omega.{arith}
use lib.Dec.{eqb}
use borrow.Author.Tests.{eq-eqb}

unfoldable pub sum : (ℕ → ℕ) → ℕ → ℕ
sum f zero = 0
sum f (suc n) = sum f n + f n

pub sum_below : (g f : ℕ → ℕ) (n : ℕ) → ((i : ℕ) → i < n → g i ≤ f i) → sum g n ≤ sum f n
unfolding sum
sum_below g f zero h = omega arith
sum_below g f (suc n) h = omega (arith, h n (omega arith), sum_below g f n (λ i l. h i (omega arith)))

pub sum_most : (f : ℕ → ℕ) (n c : ℕ) → ((i : ℕ) → i < n → f i ≤ c) → sum f n ≤ n * c
unfolding sum
sum_most f zero c h = omega arith
sum_most f (suc n) c h = omega (arith, h n (omega arith), sum_most f n c (λ i l. h i (omega arith)))

-- no term is more, and the term at j is one less
sum_one : (g f : ℕ → ℕ) (n j : ℕ) → j < n → ((i : ℕ) → i < n → g i + cond (eqb j i) 1 0 ≤ f i) → sum g n + 1 ≤ sum f n
unfolding sum
sum_one g f zero j l h = absurd (omega arith)
sum_one g f (suc n) j l h =
    ⊎_elim here (λ k. later (sum_one g f n j k (λ i x. h i (omega arith)))) (eq-or-lt_of_le (le_of_suc-le-suc l))
  where
    here : j ≡ n → sum g (suc n) + 1 ≤ sum f (suc n)
    here e =
        omega (
          arith,
          sum_below g f n (λ i x. omega (arith, h i (omega arith))),
          rw (eq-eqb j n e) at (h n (omega arith)),
        )

    later : sum g n + 1 ≤ sum f n → sum g (suc n) + 1 ≤ sum f (suc n)
    later k = omega (arith, h n (omega arith))

-- the same where `t` says whether the term at j is one less
pub sum_drop : (t : Bool) (g f : ℕ → ℕ) (n j : ℕ) → j < n → ((i : ℕ) → i < n → g i + cond (t && eqb j i) 1 0 ≤ f i)
    → sum g n + cond t 1 0 ≤ sum f n
sum_drop true g f n j l h = sum_one g f n j l h
sum_drop false g f n j l h = omega (arith, sum_below g f n (λ i x. omega (arith, h i x)))
