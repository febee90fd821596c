-- One member changes and the others stay: to show a fact of all, show it of that one changed and of each unchanged.
use mathlib.Core.Path.{◌≡◌, refl, sym, subst, ◌∙◌}
use mathlib.Core.Bool.{Bool, true, false, cond, ◌&&◌, and-false, and-eq-true_iff, true≢false, false≢true}
use Prim.Native.Nat.{ℕ}
use lib.Dec.{eqb}
use borrow.Author.Tests.{eqb-true, eqb-false}
use Rattle.laws.proofs.Sets.{cell}

-- ---- truth values

pub clash : {t : Bool} → t ≡ true → t ≡ false → ⊥
clash p q = true≢false (sym p ∙ q)

pub is_true : (t : Bool) → (t ≡ false → ⊥) → t ≡ true
is_true true h = refl
is_true false h = absurd (h refl)

pub is_false : (t : Bool) → (t ≡ true → ⊥) → t ≡ false
is_false true h = absurd (h refl)
is_false false h = refl

pub joined : (t x : Bool) → x ≡ true → cond t true x ≡ true
joined true x e = refl
joined false x e = e

pub was_in : (t x : Bool) → cond t false x ≡ true → x ≡ true
was_in true x e = absurd (false≢true e)
was_in false x e = e

-- two changes may be made in either order unless they meet and differ
pub cond_swap : {A : Type 0} (t u : Bool) (x y z : A) → (t ≡ true → u ≡ true → x ≡ y)
    → cond t x (cond u y z) ≡ cond u y (cond t x z)
cond_swap true true x y z h = h refl refl
cond_swap true false x y z h = refl
cond_swap false true x y z h = refl
cond_swap false false x y z h = refl

-- ---- one member

pub on_one : (i : ℕ) (P : ℕ → Bool → Type 0) → P i true → ((a : ℕ) → (i ≡ a → ⊥) → P a false) → (a : ℕ) → P a (eqb i a)
on_one i P here there a = go (eqb i a) refl
  where
    go : (t : Bool) → eqb i a ≡ t → P a t
    go true e = subst (λ x. P x true) (eqb-true i a e) here
    go false e = there a (eqb-false i a e)

-- both tests ask for the same two, once in each order
pub on_cell : (i j : ℕ) (P : ℕ → ℕ → Bool → Bool → Type 0) → P i j true true → ((a b : ℕ) → P a b false false)
    → (a b : ℕ) → P a b (cell i j a b) (cell j i b a)
on_cell i j P here there =
    on_one i (λ a t. (b : ℕ) → P a b (t && eqb j b) (eqb j b && t))
    (on_one j (λ b t. P i b (true && t) (t && true)) here (λ b n. there i b))
    (λ a n b. subst (P a b false) (sym (and-false (eqb j b))) (there a b))

pub cell_is : (i j a b : ℕ) → cell i j a b ≡ true → (i ≡ a) × (j ≡ b)
cell_is i j a b h =
    let both = (and-eq-true_iff (eqb i a) (eqb j b)).0 h in (eqb-true i a both.0, eqb-true j b both.1)
