-- The delivery test as four laws: all that a proof need know of the modes. A new mode, or another test, is told here.
use mathlib.Core.Path.{◌≡◌, refl, sym, ◌∙◌}
use mathlib.Core.Bool.{Bool, true, false, not, ◌||◌}
use Prim.Native.Nat.{ℕ, ◌*◌, ◌<◌}
use native.Mathlib.Decide.{ℕ_discrete}
use native.Mathlib.Omega.{arith}
use borrow.Author.Tests.{eq-eqb, ne_eqb, lt-ltb, ltb-true}
use Rattle.sets.specs.Set.{has, within, count_below}
use Rattle.sets.proofs.Counts.{every-at, every_is, how_many_mono}
use Rattle.bank.specs.Fit.{all_ack}
use Rattle.refusals.specs.Delivery.{enough}

-- a fact that turns on whether the mode is all-ack
pub by_mode : (k : ℕ) (P : Type 0) → (k ≡ all_ack → P) → ((k ≡ all_ack → ⊥) → P) → P
by_mode k P a m = go (ℕ_discrete k all_ack)
  where
    go : Dec (k ≡ all_ack) → P
    go (yes e) = a e
    go (no d) = m d

implies : (s t : Bool) → (s ≡ true → t ≡ true) → (not s || t) ≡ true
implies true t h = h refl
implies false t h = refl

-- ---- what passes: all-ack, where everybody trusted is received from; majority, where more than half are

module _ (k n x y : ℕ) where
  pub passes_all : k ≡ all_ack → enough k n x y ≡ true → (i : ℕ) → i < n → has x i ≡ true → has y i ≡ true
  unfolding enough within
  passes_all e h i l u = rw u at (every-at _ n (rw (eq-eqb k all_ack e) at h) i l)

  pub all_pass : k ≡ all_ack → ((i : ℕ) → i < n → has x i ≡ true → has y i ≡ true) → enough k n x y ≡ true
  unfolding enough within
  all_pass e h = rw (eq-eqb k all_ack e) (every_is _ n (λ i l. implies (has x i) (has y i) (h i l)))

  pub passes_most : (k ≡ all_ack → ⊥) → enough k n x y ≡ true → n < 2 * count_below y n
  unfolding enough
  passes_most d h = ltb-true n _ (rw (ne_eqb k all_ack d) at h)

  pub most_pass : (k ≡ all_ack → ⊥) → n < 2 * count_below y n → enough k n x y ≡ true
  unfolding enough
  most_pass d h = rw (ne_eqb k all_ack d) (lt-ltb n _ h)

-- ---- what follows

module _ (k n : ℕ) where
  -- who joins the received and who leaves the trusted does not undo it
  pub passes_on : (x x' y y' : ℕ)
      → (k ≡ all_ack → (i : ℕ) → i < n → has x' i ≡ true → has x i ≡ true)
      → ((i : ℕ) → i < n → has y i ≡ true → has y' i ≡ true)
      → enough k n x y ≡ true → enough k n x' y' ≡ true
  unfolding count_below
  passes_on x x' y y' hx hy h =
      by_mode k _
      (λ e. all_pass k n x' y' e (λ i l u. hy i l (passes_all k n x y e h i l (hx e i l u))))
      (λ d. most_pass k n x' y' d (omega (arith, passes_most k n x y d h, how_many_mono (has y) (has y') n hy)))

  -- members of n and above do not count
  pub enough-below : (x x' y y' : ℕ) → ((i : ℕ) → i < n → has x i ≡ has x' i) → ((i : ℕ) → i < n → has y i ≡ has y' i)
      → enough k n x y ≡ enough k n x' y'
  enough-below x x' y y' hx hy =
      same_truth _ _
      (passes_on x x' y y' (λ _ i l u. hx i l ∙ u) (λ i l u. sym (hy i l) ∙ u))
      (passes_on x' x y' y (λ _ i l u. sym (hx i l) ∙ u) (λ i l u. hy i l ∙ u))
    where
      same_truth : (s t : Bool) → (s ≡ true → t ≡ true) → (t ≡ true → s ≡ true) → s ≡ t
      same_truth true t f g = sym (f refl)
      same_truth false true f g = g refl
      same_truth false false f g = refl
