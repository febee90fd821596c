-- Tests of every number below a bound, and how many numbers below a bound pass a test.
use mathlib.Core.Path.{◌≡◌, refl, sym, ap, ◌∙◌}
use mathlib.Core.Logic.{⊎_elim}
use mathlib.Core.Bool.{Bool, true, false, cond, not, ◌&&◌, ◌||◌}
use mathlib.Core.Bool.{and-eq-true_iff, and-false, and-true, false≢true, or-false}
use Prim.Native.Nat.{ℕ, zero, suc, ◌+◌, ◌*◌, ◌/◌, ◌%◌, ◌^◌, ◌≤◌, ◌<◌}
use native.Mathlib.Nat.{eq-or-lt_of_le, le_of_suc-le-suc, mod-lt, mod-one, zero-add, zero-mul}
use native.Mathlib.Numerals.{add-one, one-add}
use native.Mathlib.Omega.{arith}
use lib.Dec.{eqb}
use lib.Pow.{mod-pow-add, pow_pos}
use lib.Count.{ones, ones_in, ones_cat}
use borrow.Author.Tests.{eq-eqb, ne_eqb}
use Rattle.sets.specs.Set.{has, cut, every, how_many, count_below}
use Rattle.sets.proofs.Digits.{digit_cases}

-- ---- every number below n

pub every_more : (p : ℕ → Bool) (n : ℕ) → every p n ≡ true → p n ≡ true → every p (n + 1) ≡ true
unfolding every
every_more p n e h = rw (add-one, e, h)

pub every_is : (p : ℕ → Bool) (n : ℕ) → ((i : ℕ) → i < n → p i ≡ true) → every p n ≡ true
unfolding every
every_is p zero h = refl
every_is p (suc n) h = rw (every_is p n (λ i l. h i (omega arith)), h n (omega arith))

pub every-at : (p : ℕ → Bool) (n : ℕ) → every p n ≡ true → (i : ℕ) → i < n → p i ≡ true
unfolding every
every-at p zero h i l = absurd (omega arith)
every-at p (suc n) h i l =
    let both = (and-eq-true_iff _ _).0 h in
    ⊎_elim (λ e. rw e both.1) (every-at p n both.0 i) (eq-or-lt_of_le (le_of_suc-le-suc l))

pub every_fails : (p : ℕ → Bool) (n k : ℕ) → k < n → p k ≡ false → every p n ≡ false
every_fails p n k l h = go (every p n) refl
  where
    go : (t : Bool) → every p n ≡ t → t ≡ false
    go true e = absurd (false≢true (sym h ∙ every-at p n e k l))
    go false e = refl

pub every_same : (p q : ℕ → Bool) (n : ℕ) → ((i : ℕ) → i < n → p i ≡ q i) → every p n ≡ every q n
unfolding every
every_same p q zero h = refl
every_same p q (suc n) h = rw (h n (omega arith), every_same p q n (λ i l. h i (omega arith)))

-- ---- how many numbers below n

one_more : (s t : Bool) → (s ≡ true → t ≡ true) → cond s 1 0 ≤ cond t 1 0
one_more true t h = rw (h refl) (omega arith)
one_more false t h = omega arith

pub how_many_mono : (p q : ℕ → Bool) (n : ℕ) → ((i : ℕ) → i < n → p i ≡ true → q i ≡ true) → how_many p n ≤ how_many q n
unfolding how_many
how_many_mono p q zero h = omega arith
how_many_mono p q (suc n) h =
    omega (arith, how_many_mono p q n (λ i l. h i (omega arith)), one_more (p n) (q n) (h n (omega arith)))

pub how_many_same : (p q : ℕ → Bool) (n : ℕ) → ((i : ℕ) → i < n → p i ≡ q i) → how_many p n ≡ how_many q n
unfolding how_many
how_many_same p q zero h = refl
how_many_same p q (suc n) h = rw (h n (omega arith), how_many_same p q n (λ i l. h i (omega arith)))

pub how_many_le : (p : ℕ → Bool) (n : ℕ) → how_many p n ≤ n
unfolding how_many
how_many_le p zero = omega arith
how_many_le p (suc n) = omega (arith, how_many_le p n, one_more (p n) true (λ e. refl))

pub how_many-add : (p q : ℕ → Bool) (n m : ℕ) → m < n → p m ≡ false → ((i : ℕ) → i < n → q i ≡ (p i || eqb m i))
    → how_many q n ≡ suc (how_many p n)
unfolding how_many
how_many-add p q zero m l z h = absurd (omega arith)
how_many-add p q (suc n) m l z h =
    ⊎_elim here
    (λ k. later k (how_many-add p q n m k z (λ i j. h i (omega arith))))
    (eq-or-lt_of_le (le_of_suc-le-suc l))
  where
    other : (i : ℕ) → i < suc n → (m ≡ i → ⊥) → q i ≡ p i
    other i k ne = h i k ∙ rw (ne_eqb m i ne) (or-false (p i))

    here : m ≡ n → how_many q (suc n) ≡ suc (how_many p (suc n))
    here e =
        let pn : p n ≡ false = ap p (sym e) ∙ z in
        let qn : q n ≡ true = h n (omega arith) ∙ rw (pn, eq-eqb m n e) in
        let below : how_many q n ≡ how_many p n = how_many_same q p n (λ i k. other i (omega arith) (omega arith)) in
        rw (pn, qn, below) (omega arith)

    later : m < n → how_many q n ≡ suc (how_many p n) → how_many q (suc n) ≡ suc (how_many p (suc n))
    later k e = rw (other n (omega arith) (omega arith), e) (omega arith)

pub how_many_gap : (p : ℕ → Bool) (n m : ℕ) → m < n → p m ≡ false → how_many p n < n
how_many_gap p n m l z =
    omega (arith, how_many-add p (λ i. p i || eqb m i) n m l z (λ i k. refl), how_many_le (λ i. p i || eqb m i) n)

abbrev pub Common : (ℕ → Bool) → (ℕ → Bool) → ℕ → Type 0
Common p q n = (i : ℕ) × (i < n) × (p i ≡ true) × (q i ≡ true)

-- the pigeonhole: n has no room for both counts unless they share a number
pub common : (p q : ℕ → Bool) (n : ℕ) → n < how_many p n + how_many q n → Common p q n
unfolding how_many
common p q zero h = absurd (omega arith)
common p q (suc n) h =
    go (p n) (q n) refl refl h (λ l. let r = common p q n l in (r.0, omega (arith, r.1), r.2, r.3))
  where
    go : (s t : Bool) → p n ≡ s → q n ≡ t → suc n < (how_many p n + cond s 1 0) + (how_many q n + cond t 1 0)
        → (n < how_many p n + how_many q n → Common p q (suc n)) → Common p q (suc n)
    go true true e f g k = (n, omega arith, e, f)
    go true false e f g k = k (omega arith)
    go false true e f g k = k (omega arith)
    go false false e f g k = k (omega arith)

-- ---- members

cut-more : (w n : ℕ) → cut w (suc n) ≡ w / 2 ^ n % 2 * 2 ^ n + cut w n
unfolding cut
cut-more w n = rw one-add at (mod-pow-add w 1 n)

-- `ones` is what the code's `count_ones` gives
pub count_ones : (w n : ℕ) → count_below w n ≡ ones (cut w n)
unfolding count_below how_many cut has ones ones_in
count_ones w zero = rw mod-one
count_ones w (suc n) =
    let bit : ones (w / 2 ^ n % 2) ≡ cond (has w n) 1 0 =
    digit_cases (λ x. ones x ≡ cond (eqb x 1) 1 0) refl refl (w / 2 ^ n) in
    rw (cut-more w n, ones_cat n _ _ (mod-lt w (pow_pos n)), bit, ← count_ones w n) (omega arith)

pub cut-none : (w n : ℕ) → eqb (cut w n) 0 ≡ every (λ i. not (has w i)) n
unfolding cut every has
cut-none w zero = rw mod-one
cut-none w (suc n) =
    let some : 1 * 2 ^ n + cut w n ≡ 0 → ⊥ = omega (arith, pow_pos n) in
    rw (cut-more w n, ← cut-none w n)
    (digit_cases (λ x. eqb (x * 2 ^ n + cut w n) 0 ≡ (eqb (cut w n) 0 && not (eqb x 1)))
    (rw (zero-mul, zero-add) (sym (and-true _)))
    (ne_eqb _ 0 some ∙ sym (and-false (eqb (cut w n) 0)))
    (w / 2 ^ n))
