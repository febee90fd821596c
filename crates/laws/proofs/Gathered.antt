-- The word that gathers a set: below n its members are the set's, so that what is said of words is said of sets.
use mathlib.Core.Path.{◌≡◌, refl, sym, ◌∙◌}
use mathlib.Core.Logic.{⊎_elim}
use mathlib.Core.Bool.{Bool, true, false, cond, ◌&&◌, ◌||◌, and-false, and-true, or-false}
use Prim.Native.Nat.{ℕ, zero, suc, ◌+◌, ◌^◌, ◌<◌}
use native.Mathlib.Nat.{add-zero, eq-or-lt_of_le, le_of_suc-le-suc, pow-suc}
use native.Mathlib.Omega.{arith}
use lib.Dec.{eqb}
use borrow.Author.Tests.{eq-eqb, ne_eqb}
use Rattle.sets.specs.Set.{has, with, set_of, how_many, count_below}
use Rattle.sets.proofs.Members.{has-outside, has-with}
use Rattle.sets.proofs.Counts.{how_many_same}

module _ (t : ℕ → Bool) where
  short : (n : ℕ) → set_of t n < 2 ^ n
  unfolding set_of
  short zero = omega arith
  short (suc n) = go (t n) (short n)
    where
      go : (u : Bool) → set_of t n < 2 ^ n → set_of t n + cond u (2 ^ n) 0 < 2 ^ suc n
      go true l = omega (arith, pow-suc 2 n)
      go false l = omega (arith, pow-suc 2 n)

  outside : (n : ℕ) → has (set_of t n) n ≡ false
  outside n = has-outside (set_of t n) n n (short n) (omega arith)

  -- one number more
  joins : (n i : ℕ) (u : Bool) → has (set_of t n + cond u (2 ^ n) 0) i ≡ (has (set_of t n) i || (u && eqb n i))
  unfolding with
  joins n i true = rw (outside n) at (has-with (set_of t n) n i)
  joins n i false = rw add-zero (sym (or-false (has (set_of t n) i)))

  pub gathered : (n i : ℕ) → i < n → has (set_of t n) i ≡ t i
  unfolding set_of
  gathered zero i l = absurd (omega arith)
  gathered (suc n) i l =
      joins n i (t n)
      ∙ ⊎_elim here (λ k. earlier k (gathered n i k)) (eq-or-lt_of_le (le_of_suc-le-suc l))
    where
      here : i ≡ n → (has (set_of t n) i || (t n && eqb n i)) ≡ t i
      here e = rw (e, outside n, eq-eqb n n refl) (and-true (t n))

      earlier : i < n → has (set_of t n) i ≡ t i → (has (set_of t n) i || (t n && eqb n i)) ≡ t i
      earlier k h = let d : n ≡ i → ⊥ = omega arith in rw (ne_eqb n i d, and-false, or-false) h

  pub gathered_count : (n : ℕ) → count_below (set_of t n) n ≡ how_many t n
  unfolding count_below
  gathered_count n = how_many_same (has (set_of t n)) t n (gathered n)
