-- The least number that passes a test, and the lowest member of a set.
use mathlib.Core.Path.{◌≡◌, refl, sym, ap, fun_ext, ◌∙◌}
use mathlib.Core.Bool.{Bool, true, false, cond, not, ◌&&◌, true≢false}
use Prim.Native.Nat.{ℕ, zero, suc, ◌+◌, ◌-◌, ◌*◌, ◌/◌, ◌%◌, ◌^◌, ◌≤◌, ◌<◌}
use native.Mathlib.Nat.{mod-eq_of_lt, mod-le, lt_of_le_of_lt}
use native.Mathlib.Numerals.{one-add}
use native.Mathlib.Omega.{arith}
use lib.Dec.{eqb, ltb}
use lib.Pow.{mod-pow-add}
use lib.Bits.{bit_and}
use lib.Count.{count_trailing_zeros, under}
use borrow.Author.Tests.{eqb-true, eqb-false, eq-eqb, ltb-true, ltb-false, lt-ltb, not-true}
use Rattle.sets.specs.Set.{has, cut, set_of, less, least_from, lowest}
use Rattle.sets.proofs.Tests.{both}
use Rattle.sets.proofs.Digits.{digit_cases, has_low, has_half, has-less}
use Rattle.sets.proofs.Members.{has-cut}
use Rattle.sets.proofs.Counts.{cut-none, every_is, every-at}

-- ---- the least number

pub least_here : (p : ℕ → Bool) (i k : ℕ) → p i ≡ true → least_from p i (suc k) ≡ i
unfolding least_from
least_here p i k e = rw e

pub least_later : (p : ℕ → Bool) (i k : ℕ) → p i ≡ false → least_from p i (suc k) ≡ least_from p (suc i) k
unfolding least_from
least_later p i k e = rw e

pub least_none : (p : ℕ → Bool) (i : ℕ) → least_from p i 0 ≡ i
unfolding least_from
least_none p i = refl

-- it is in reach, it passes the test where it is one of the k, and none before it does
pub record Least (p : ℕ → Bool) (i k r : ℕ) : Type 0 where
  pub from : i ≤ r
  pub to : r ≤ i + k
  pub passes : r < i + k → p r ≡ true
  pub before : (j : ℕ) → i ≤ j → j < r → p j ≡ false

pub least_is : (p : ℕ → Bool) (i k : ℕ) → Least p i k (least_from p i k)
least_is p i zero =
    rw least_none
    (record {
      from = omega arith;
      to = omega arith;
      passes = λ l. absurd (omega arith);
      before = λ j l h. absurd (omega arith);
    })
least_is p i (suc k) = go (p i) refl (least_is p (suc i) k)
  where
    go : (t : Bool) → p i ≡ t → Least p (suc i) k (least_from p (suc i) k) → Least p i (suc k) (least_from p i (suc k))
    go true e h =
        rw (least_here p i k e)
        (record { from = omega arith; to = omega arith; passes = λ l. e; before = λ j l m. absurd (omega arith) })
    go false e h =
        rw (least_later p i k e)
        (record {
          from = omega (arith, h.from);
          to = omega (arith, h.to);
          passes = λ l. h.passes (omega arith);
          before = λ j l m. first j l m (eqb i j) refl;
        })
      where
        first : (j : ℕ) → i ≤ j → j < least_from p (suc i) k → (t : Bool) → eqb i j ≡ t → p j ≡ false
        first j l m true q = ap p (sym (eqb-true i j q)) ∙ e
        first j l m false q = h.before j (omega (arith, eqb-false i j q)) m

pub least_unique : (p : ℕ → Bool) (i k r s : ℕ) → Least p i k r → Least p i k s → r ≡ s
least_unique p i k r s h g = go (ltb r s) refl (ltb s r) refl
  where
    go : (t : Bool) → ltb r s ≡ t → (u : Bool) → ltb s r ≡ u → r ≡ s
    go true e u f =
        let l : r < s = ltb-true r s e in
        absurd (true≢false (sym (h.passes (omega (arith, g.to))) ∙ g.before r h.from l))
    go false e true f =
        let l : s < r = ltb-true s r f in
        absurd (true≢false (sym (g.passes (omega (arith, h.to))) ∙ h.before s g.from l))
    go false e false f = omega (arith, ltb-false r s e, ltb-false s r f)

-- ---- the lowest member of a set

-- the test shifted by one
least_half : (w i k : ℕ) → least_from (has w) (suc i) k ≡ suc (least_from (has (w / 2)) i k)
least_half w i zero = rw (least_none, least_none) refl
least_half w i (suc k) = go (has (w / 2) i) refl (least_half w (suc i) k)
  where
    go : (t : Bool) → has (w / 2) i ≡ t → least_from (has w) (suc (suc i)) k ≡ suc (least_from (has (w / 2)) (suc i) k)
        → least_from (has w) (suc i) (suc k) ≡ suc (least_from (has (w / 2)) i (suc k))
    go true e h = least_here (has w) (suc i) k (has_half w i ∙ e) ∙ ap suc (sym (least_here (has (w / 2)) i k e))
    go false e h =
        least_later (has w) (suc i) k (has_half w i ∙ e) ∙ h ∙ ap suc (sym (least_later (has (w / 2)) i k e))

pub trailing_lowest : (k w : ℕ) → count_trailing_zeros k w ≡ lowest w k
unfolding count_trailing_zeros lowest
trailing_lowest zero w = sym (least_none (has w) 0)
trailing_lowest (suc k) w =
    ap (under (w % 2)) (trailing_lowest k (w / 2))
    ∙ digit_cases (λ d. w % 2 ≡ d → under d (lowest (w / 2) k) ≡ least_from (has w) 0 (suc k))
    (λ e. sym (least_half w 0 k) ∙ sym (least_later (has w) 0 k (has_low w ∙ ap (λ x. eqb x 1) e)))
    (λ e. sym (least_here (has w) 0 k (has_low w ∙ ap (λ x. eqb x 1) e)))
    w refl

pub cut_fits : (w n k : ℕ) → w < 2 ^ k → cut w n < 2 ^ k
unfolding cut
cut_fits w n k h = lt_of_le_of_lt (mod-le w (2 ^ n)) h

module _ (w n : ℕ) (small : cut w n < 2 ^ 16) (some : cut w n ≡ 0 → ⊥) where
  lowest-inside : lowest (cut w n) 16 < 16
  unfolding lowest cut
  lowest-inside = go (ltb (lowest (cut w n) 16) 16) refl (least_is (has (cut w n)) 0 16)
    where
      go : (t : Bool) → ltb (lowest (cut w n) 16) 16 ≡ t → Least (has (cut w n)) 0 16 (lowest (cut w n) 16)
          → lowest (cut w n) 16 < 16
      go true e h = ltb-true _ _ e
      go false e h =
          let l = ltb-false (lowest (cut w n) 16) 16 e in
          let none =
          every_is (λ i. not (has (cut w n) i)) 16 (λ i k. ap not (h.before i (omega arith) (omega arith))) in
          absurd (some (sym (mod-eq_of_lt small) ∙ eqb-true _ 0 (cut-none (cut w n) 16 ∙ none)))

  lowest_member : (has w (lowest (cut w n) 16) ≡ true) × (ltb (lowest (cut w n) 16) n ≡ true)
  unfolding lowest
  lowest_member =
      both _ _
      (sym (has-cut w n (lowest (cut w n) 16))
      ∙ (least_is (has (cut w n)) 0 16).passes (omega (arith, lowest-inside)))

  -- a set that has a member below n has its lowest there, and it is the lowest of the whole word
  pub lowest-cut : lowest (cut w n) 16 ≡ lowest w n
  unfolding lowest
  lowest-cut =
      let m = lowest_member in
      let r : ℕ = least_from (has (cut w n)) 0 16 in
      let l : r < n = ltb-true r n m.1 in
      least_unique (has w) 0 n r (least_from (has w) 0 n)
      (record {
        from = omega arith;
        to = omega arith;
        passes = λ _. m.0;
        before = λ j k h. first (has w j) (ltb j n) (lt-ltb j n (omega arith))
            (sym (has-cut w n j) ∙ (least_is (has (cut w n)) 0 16).before j k h);
      })
      (least_is (has w) 0 n)
    where
      first : (s t : Bool) → t ≡ true → (s && t) ≡ false → s ≡ false
      first true t e h = absurd (true≢false (sym e ∙ h))
      first false t e h = refl

pub lowest-none : (w n : ℕ) → cut w n ≡ 0 → lowest w n ≡ n
unfolding lowest
lowest-none w n e =
    least_unique (has w) 0 n (least_from (has w) 0 n) n (least_is (has w) 0 n)
    (record {
      from = omega arith;
      to = omega arith;
      passes = λ l. absurd (omega arith);
      before = λ j k l. absent j l;
    })
  where
    absent : (j : ℕ) → j < n → has w j ≡ false
    absent j l = not-true _ (every-at (λ i. not (has w i)) n (sym (cut-none w n) ∙ eq-eqb _ 0 e) j l)

-- ---- the set of the numbers that pass a test

set_of-has : (w n : ℕ) → set_of (has w) n ≡ cut w n
unfolding set_of has cut
set_of-has w zero = let e : 0 ≡ w % 1 = omega arith in e
set_of-has w (suc n) =
    ap (λ x. x + cond (eqb (w / 2 ^ n % 2) 1) (2 ^ n) 0) (set_of-has w n)
    ∙ digit_cases (λ d. w % 2 ^ n + cond (eqb d 1) (2 ^ n) 0 ≡ d * 2 ^ n + w % 2 ^ n) (omega arith) (omega arith)
    (w / 2 ^ n)
    ∙ sym (ap (λ k. w % 2 ^ k) (sym (one-add n)) ∙ mod-pow-add w 1 n)

pub less_word : (u w : ℕ) → u < 2 ^ 16 → u - bit_and u w ≡ less u w
unfolding less cut
less_word u w h =
    sym
    (ap (λ p. set_of p 16) (fun_ext (λ i. sym (has-less u w i)))
    ∙ set_of-has (u - bit_and u w) 16
    ∙ mod-eq_of_lt (omega arith))

pub has_left : (u w j : ℕ) → u < 2 ^ 16 → has (less u w) j ≡ (has u j && not (has w j))
has_left u w j h = ap (λ x. has x j) (sym (less_word u w h)) ∙ has-less u w j
