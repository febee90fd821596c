-- Banks that are the same below N: any set word may differ from N on, and nothing else may differ.
use mathlib.Core.Path.{◌≡◌, refl, sym, ap, subst, ◌∙◌}
use mathlib.Core.Bool.{Bool, true, false, cond, true≢false}
use mathlib.Core.List.{List, [], ◌∷◌}
use Prim.Native.Nat.{ℕ, ◌≤◌, ◌<◌}
use native.Mathlib.Decide.{dec_lt}
use native.Mathlib.Omega.{arith}
use lib.ListN.{length, get_or}
use lib.Seq.{ext_get_or}
use Rattle.sets.specs.Set.{has}
use Rattle.sets.proofs.Members.{same_members}
use Rattle.bank.specs.Place.{Place, ◌≔◌, N}
use Rattle.bank.specs.Layout.{Layout, size, address, words, puts, PlaceIn}
use Rattle.laws.specs.Above.{is_set, SameBelow, JustAbove}
use Rattle.bank.proofs.Places.{same_place}
use Rattle.bank.proofs.Reading.{length-puts, words-after}
use Rattle.bank.proofs.Names.{one_name}
use Rattle.bank.proofs.EveryWord.{places_are_words}

module _ (L : Layout) where
  -- ---- one set word differs

  module _ (b : List ℕ) (l : length b ≡ size L) (p : Place) (h : PlaceIn L p) (e : is_set p ≡ true) (x : ℕ)
      (same : (j : ℕ) → j < words L b N → has (words L b p) j ≡ has x j) where
    abbrev c : List ℕ
    c = puts (address L) b (p ≔ x ∷ [])

    read : (q : Place) → PlaceIn L q → words L c q ≡ cond (same_place p q) x (words L b q)
    read q k = words-after L b (p ≔ x ∷ []) q l (h, tt) k

    one_differs : SameBelow L b c
    one_differs =
        record {
          long = sym (length-puts (address L) b (p ≔ x ∷ []));
          numbers = λ q k d. number q d (same_place p q) refl ∙ sym (read q k);
          sets = λ q k d j i. set q j i (same_place p q) refl ∙ sym (ap (λ y. has y j) (read q k));
        }
      where
        number : (q : Place) → is_set q ≡ false → (t : Bool) → same_place p q ≡ t → words L b q ≡ cond t x (words L b q)
        number q d true s = absurd (true≢false (sym e ∙ ap is_set (one_name p q s) ∙ d))
        number q d false s = refl

        set : (q : Place) (j : ℕ) → j < words L b N → (t : Bool) → same_place p q ≡ t
            → has (words L b q) j ≡ has (cond t x (words L b q)) j
        set q j i true s = subst (λ r. has (words L b r) j ≡ has x j) (one_name p q s) (same j i)
        set q j i false s = refl

  -- ---- none differs from N on

  module _ (b c : List ℕ) (l : length b ≡ size L) (e : SameBelow L b c)
      (above : (p : Place) → PlaceIn L p → is_set p ≡ true → (j : ℕ) → words L b N ≤ j
      → has (words L b p) j ≡ has (words L c p) j) where
    same_bit : (p : Place) → PlaceIn L p → is_set p ≡ true → (j : ℕ) → has (words L b p) j ≡ has (words L c p) j
    same_bit p h q j = go (dec_lt j (words L b N))
      where
        go : Dec (j < words L b N) → has (words L b p) j ≡ has (words L c p) j
        go (yes i) = e.sets p h q j i
        go (no i) = above p h q j (omega arith)

    same_word : (p : Place) → PlaceIn L p → words L b p ≡ words L c p
    same_word p h = go (is_set p) refl
      where
        go : (t : Bool) → is_set p ≡ t → words L b p ≡ words L c p
        go true q = same_members _ _ (same_bit p h q)
        go false q = e.numbers p h q

    one-bank : b ≡ c
    one-bank =
        ext_get_or 0 b c e.long
        (λ i k. let w = (places_are_words L).every i (omega (arith, l)) in
        subst (λ a. get_or b a 0 ≡ get_or c a 0) w.2 (same_word w.0 w.1))

  pub just_above : JustAbove L
  just_above = record { any = one_differs; only = one-bank }
