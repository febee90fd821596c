-- The delivery test of sets: the four laws of it (refusals, proofs/DeliveryTest), and what the rest rests on.
use mathlib.Core.Path.{◌≡◌, sym, ◌∙◌}
use mathlib.Core.Bool.{Bool, true}
use mathlib.Core.Logic.{inl, inr}
use Prim.Native.Nat.{ℕ, ◌*◌, ◌<◌}
use native.Mathlib.Omega.{arith}
use Rattle.sets.specs.Set.{has, how_many}
use Rattle.sets.proofs.Counts.{Common, common}
use Rattle.bank.specs.Fit.{all_ack}
use Rattle.refusals.specs.Delivery.{enough}
use Rattle.refusals.proofs.DeliveryTest.{by_mode, passes_all, all_pass, passes_most, most_pass, passes_on, enough-below}
use Rattle.laws.proofs.Gathered.{gathered, gathered_count}
use Rattle.laws.proofs.Sets.{Sets, enough_of, Quorate}

-- the test of two words is the test of the sets that they are
pub one_test : (k n x y : ℕ) → enough_of k n (has x) (has y) ≡ enough k n x y
unfolding enough_of
one_test k n x y = enough-below k n _ _ _ _ (gathered (has x) n) (gathered (has y) n)

-- ---- what passes: all-ack, where everybody trusted is received from; majority, where more than half are

module _ (k n : ℕ) (t r : ℕ → Bool) where
  pub all_trusted : k ≡ all_ack → enough_of k n t r ≡ true → (i : ℕ) → i < n → t i ≡ true → r i ≡ true
  unfolding enough_of
  all_trusted e h i l u =
      sym (gathered r n i l) ∙ passes_all k n _ _ e h i l (gathered t n i l ∙ u)

  pub all_enough : k ≡ all_ack → ((i : ℕ) → i < n → t i ≡ true → r i ≡ true) → enough_of k n t r ≡ true
  unfolding enough_of
  all_enough e h =
      all_pass k n _ _ e (λ i l u. gathered r n i l ∙ h i l (sym (gathered t n i l) ∙ u))

  pub more_than_half : (k ≡ all_ack → ⊥) → enough_of k n t r ≡ true → n < 2 * how_many r n
  unfolding enough_of
  more_than_half d h = omega (arith, passes_most k n _ _ d h, gathered_count r n)

  pub most-enough : (k ≡ all_ack → ⊥) → n < 2 * how_many r n → enough_of k n t r ≡ true
  unfolding enough_of
  most-enough d h = most_pass k n _ _ d (omega (arith, gathered_count r n))

-- ---- what follows

module _ (k n : ℕ) where
  -- who joins the received and who leaves the trusted does not undo it
  pub enough_grows : (t t' r r' : ℕ → Bool)
      → (k ≡ all_ack → (i : ℕ) → i < n → t' i ≡ true → t i ≡ true)
      → ((i : ℕ) → i < n → r i ≡ true → r' i ≡ true)
      → enough_of k n t r ≡ true → enough_of k n t' r' ≡ true
  unfolding enough_of
  enough_grows t t' r r' ht hr h =
      passes_on k n _ _ _ _
      (λ e i l u. gathered t n i l ∙ ht e i l (sym (gathered t' n i l) ∙ u))
      (λ i l u. gathered r' n i l ∙ hr i l (sym (gathered r n i l) ∙ u))
      h

  -- two sets that pass have a member in common, if anybody is trusted
  pub enough_meets : (t a b : ℕ → Bool) (q : ℕ) → q < n → t q ≡ true
      → enough_of k n t a ≡ true → enough_of k n t b ≡ true → Common a b n
  enough_meets t a b q l u x y =
      by_mode k _
      (λ e. (q, l, all_trusted k n t a e x q l u, all_trusted k n t b e y q l u))
      (λ d. common a b n (omega (arith, more_than_half k n t a d x, more_than_half k n t b d y)))

-- where agreement is promised, those up pass the test among themselves
pub quorum : (s : Sets) → Quorate s → enough_of s.mode s.N s.up s.up ≡ true
quorum s q = go q
  where
    all : s.mode ≡ all_ack → enough_of s.mode s.N s.up s.up ≡ true
    all e = all_enough s.mode s.N s.up s.up e (λ i l u. u)

    go : Quorate s → enough_of s.mode s.N s.up s.up ≡ true
    go (inl e) = all e
    go (inr h) = by_mode s.mode _ all (λ d. most-enough s.mode s.N s.up s.up d h)
