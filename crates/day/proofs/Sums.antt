-- Sums over lists: one number for each element, in any order, and a number that only one element has.
use Prim.Native.Nat.{ℕ, zero, suc, ◌+◌, ◌≤◌, ◌<◌}
use mathlib.Core.Path.{◌≡◌, refl, sym, ap, ap₂, ◌∙◌}
use mathlib.Core.Bool.{Bool, true, false, cond}
use mathlib.Core.List.{List, [], ◌∷◌}
use native.Mathlib.Omega.{arith}
use lib.Dec.{eqb}
use lib.ListN.{length}
use borrow.Author.Tests.{eqb-true, eqb-false, ne_eqb}
use Rattle.bank.specs.Layout.{up_from}
use Rattle.day.specs.Season.{sum_over}

pub sum_same : (f g : ℕ → ℕ) → ((x : ℕ) → f x ≡ g x) → (xs : List ℕ) → sum_over f xs ≡ sum_over g xs
unfolding sum_over
sum_same f g e [] = refl
sum_same f g e (x ∷ xs) = ap₂ ◌+◌ (e x) (sum_same f g e xs)

pub sum_same_below : (f g : ℕ → ℕ) (n : ℕ) → ((x : ℕ) → x < n → f x ≡ g x) → (i k : ℕ) → i + k ≤ n
    → sum_over f (up_from i k) ≡ sum_over g (up_from i k)
unfolding sum_over
sum_same_below f g n e i zero h = refl
sum_same_below f g n e i (suc k) h =
    ap₂ ◌+◌ (e i (omega arith)) (sum_same_below f g n e (suc i) k (omega arith))

pub sum_zero : (xs : List ℕ) → sum_over (λ x. 0) xs ≡ 0
unfolding sum_over
sum_zero [] = refl
sum_zero (x ∷ xs) = ap (λ n. 0 + n) (sum_zero xs)

pub sum_ones : (xs : List ℕ) → sum_over (λ x. 1) xs ≡ length xs
unfolding sum_over
sum_ones [] = refl
sum_ones (x ∷ xs) = let e = sum_ones xs in omega arith

pub sum_plus : (f g : ℕ → ℕ) (xs : List ℕ) → sum_over (λ x. f x + g x) xs ≡ sum_over f xs + sum_over g xs
unfolding sum_over
sum_plus f g [] = refl
sum_plus f g (x ∷ xs) = let e = sum_plus f g xs in omega arith

-- a table is added up by rows or by columns
pub sum_swap : (f : ℕ → ℕ → ℕ) (xs ys : List ℕ)
    → sum_over (λ x. sum_over (f x) ys) xs ≡ sum_over (λ y. sum_over (λ x. f x y) xs) ys
unfolding sum_over
sum_swap f [] ys = sym (sum_zero ys)
sum_swap f (x ∷ xs) ys =
    ap (λ n. sum_over (f x) ys + n) (sum_swap f xs ys) ∙ sym (sum_plus (f x) (λ y. sum_over (λ x. f x y) xs) ys)

-- a number that x alone has: among numbers that are all above it the sum is 0, and else it is that number
module _ (x v : ℕ) where
  abbrev only : ℕ → ℕ
  only y = cond (eqb x y) v 0

  none_above : (i k : ℕ) → x < i → sum_over only (up_from i k) ≡ 0
  unfolding sum_over
  none_above i zero h = refl
  none_above i (suc k) h =
      ap₂ ◌+◌ (ap (λ t. cond t v 0) (ne_eqb x i (λ e. omega arith))) (none_above (suc i) k (omega arith))

  pub sum_only : (i k : ℕ) → i ≤ x → x < i + k → sum_over only (up_from i k) ≡ v
  unfolding sum_over
  sum_only i zero l u = absurd (omega arith)
  sum_only i (suc k) l u = go (eqb x i) refl (sum_only (suc i) k)
    where
      go : (t : Bool) → eqb x i ≡ t → (suc i ≤ x → x < suc i + k → sum_over only (up_from (suc i) k) ≡ v)
          → cond t v 0 + sum_over only (up_from (suc i) k) ≡ v
      go true e more = let z = none_above (suc i) k (omega (arith, eqb-true x i e)) in omega arith
      go false e more = let z = more (omega (arith, eqb-false x i e)) (omega arith) in omega arith
