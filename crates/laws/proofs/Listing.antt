-- One log apart from any bank: its first entries list the numbers that pass a test, once each, and nothing else.
use mathlib.Core.Path.{◌≡◌, refl, sym, ap, ◌∙◌}
use mathlib.Core.Logic.{⊎_elim}
use mathlib.Core.Bool.{Bool, true, false, cond, ◌&&◌, ◌||◌, or-false}
use Prim.Native.Nat.{ℕ, zero, suc, ◌+◌, ◌≤◌, ◌<◌}
use native.Mathlib.Nat.{eq-or-lt_of_le, add-zero}
use native.Mathlib.Numerals.{add-one}
use native.Mathlib.Omega.{arith}
use lib.Dec.{eqb, ltb}
use borrow.Author.Tests.{eqb-true, lt-ltb, le-ltb}
use Rattle.sets.specs.Set.{how_many}
use Rattle.sets.proofs.Counts.{how_many_same, how_many-add}

-- each number that passes `test` is one of the first `length` entries, and no other is; so many pass below `room`
pub record Lists (room : ℕ) (test : ℕ → Bool) (length : ℕ) (entry : ℕ → ℕ) : Type 0 where
  pub once : (x : ℕ) → how_many (λ k. eqb (entry k) x) length ≡ cond (test x) 1 0
  pub long : length ≡ how_many test room

module _ {room : ℕ} {test : ℕ → Bool} {length : ℕ} {entry entry' : ℕ → ℕ} (h : Lists room test length entry)
    (same : (k : ℕ) → k < length → entry' k ≡ entry k) where
  before : (x : ℕ) → how_many (λ k. eqb (entry' k) x) length ≡ cond (test x) 1 0
  before x = how_many_same _ _ length (λ k l. ap (λ y. eqb y x) (same k l)) ∙ h.once x

  pub lists_same : {test' : ℕ → Bool} {length' : ℕ} → length' ≡ length → ((x : ℕ) → test' x ≡ test x)
      → Lists room test' length' entry'
  lists_same {test'} e t =
      record {
        once = λ x. rw (e, t x) (before x);
        long = e ∙ h.long ∙ how_many_same test test' room (λ x l. sym (t x));
      }

  -- one entry more, of a number that did not pass
  pub lists_more : {test' : ℕ → Bool} {length' : ℕ} (m : ℕ) → m < room → test m ≡ false
      → length' ≡ length + 1 → entry' length ≡ m → ((x : ℕ) → test' x ≡ (test x || eqb m x))
      → Lists room test' length' entry'
  unfolding how_many
  lists_more {test'} m l z e last t =
      record {
        once = λ x. rw (e, add-one, last, before x, t x) (joins x (eqb m x) refl);
        long = e ∙ omega (arith, h.long, how_many-add test test' room m l z (λ x k. t x));
      }
    where
      joins : (x : ℕ) (u : Bool) → eqb m x ≡ u → cond (test x) 1 0 + cond u 1 0 ≡ cond (test x || u) 1 0
      joins x true q = rw (ap test (sym (eqb-true m x q)) ∙ z)
      joins x false q = rw or-false (add-zero _)

-- what passes a test below c alone
pub how_many-below : (test : ℕ → Bool) (c room : ℕ) → c ≤ room
    → how_many (λ x. ltb x c && test x) room ≡ how_many test c
unfolding how_many
how_many-below test c zero l = rw (let e : c ≡ 0 = omega arith in e)
how_many-below test c (suc n) l =
    ⊎_elim all (λ k. rw (le-ltb n c (omega arith)) (omega (arith, how_many-below test c n (omega arith))))
    (eq-or-lt_of_le l)
  where
    all : c ≡ suc n → how_many (λ x. ltb x c && test x) (suc n) ≡ how_many test c
    all e =
        how_many_same (λ x. ltb x c && test x) test (suc n)
        (λ x k. ap (λ t. t && test x) (lt-ltb x c (omega arith)))
        ∙ ap (how_many test) (sym e)
