-- A bank just opened has the sets of a group just opened.
use mathlib.Core.Path.{◌≡◌, refl, sym, ap, fun_ext, ◌∙◌}
use mathlib.Core.Bool.{Bool, true, false, cond, not, ◌&&◌, ◌||◌, and-true}
use mathlib.Core.List.{List}
use Prim.Native.Nat.{ℕ, zero, suc, ◌+◌, ◌≤◌}
use native.Mathlib.Omega.{arith}
use lib.Dec.{eqb, ltb}
use lib.ListN.{replicate, length-replicate, get_or-replicate}
use borrow.Author.Tests.{eqb-true, eqb-false, lt-ltb, le-ltb}
use Rattle.sets.specs.Set.{has, all_below}
use Rattle.sets.proofs.Members.{has-all_below, has-none}
use Rattle.bank.specs.Place.{Place, N, mode, count, up, view, message, sender, held, delivered}
use Rattle.bank.specs.Place.{acked, unsent, in_flight}
use Rattle.bank.specs.Layout.{Layout, size, address, words}
use Rattle.bank.specs.Fit.{is_size}
use Rattle.bank.specs.Opening.{views, opening, opened}
use Rattle.bank.proofs.Places.{Key, key, inside}
use Rattle.bank.proofs.Reading.{later, words-after}
use Rattle.bank.proofs.Views.{size_range}
use Rattle.bank.proofs.InLayout.{opening_in}
use Rattle.bank.proofs.Names.{views_aside, later_aside}
use Rattle.laws.proofs.Sets.{open_sets}
use Rattle.laws.proofs.Visible.{seen_same, seen_later, seen_nothing}
use Rattle.laws.proofs.Bridge.{record_sets, sets}
use Rattle.laws.proofs.Steps.{sets_of}

-- ---- the views that opening writes

elsewhere : (n k i : ℕ) (p : Place) (x : ℕ) → eqb 4 (key p).region ≡ false → later (views n i k) p x ≡ x
elsewhere n k i p x e =
    let other : Key → Bool = λ j. not (eqb 4 j.region) in
    later_aside other (views n i k) p x (views_aside other n i k (λ j. refl)) (ap not e)

-- view a is among the k that begin at i
among : ℕ → ℕ → ℕ → Bool
among a i zero = false
among a i (suc k) = eqb i a || among a (suc i) k

view-at : (n k i a x : ℕ) → later (views n i k) (view a) x ≡ cond (among a i k) (all_below n) x
unfolding among
view-at n zero i a x = refl
view-at n (suc k) i a x =
    view-at n k (suc i) a _
    ∙ ap (λ t. cond (among a (suc i) k) (all_below n) (cond t (all_below n) x)) (and-true (eqb i a))
    ∙ go (among a (suc i) k) (eqb i a)
  where
    go : (s t : Bool) → cond s (all_below n) (cond t (all_below n) x) ≡ cond (t || s) (all_below n) x
    go true true = refl
    go true false = refl
    go false true = refl
    go false false = refl

among_below : (a k i : ℕ) → i ≤ a → among a i k ≡ ltb a (i + k)
unfolding among
among_below a zero i l = sym (le-ltb a (i + 0) (omega arith))
among_below a (suc k) i l = go (eqb i a) refl (among_below a k (suc i))
  where
    go : (t : Bool) → eqb i a ≡ t → (suc i ≤ a → among a (suc i) k ≡ ltb a (suc i + k))
        → (t || among a (suc i) k) ≡ ltb a (i + suc k)
    go true e h = sym (lt-ltb a (i + suc k) (omega (arith, eqb-true i a e)))
    go false e h =
        h (omega (arith, eqb-false i a e)) ∙ ap (ltb a) (let q : suc i + k ≡ i + suc k = omega arith in q)

-- ---- the sets

has_if : (t : Bool) (n b : ℕ) → has (cond t (all_below n) 0) b ≡ (t && ltb b n)
has_if true n b = has-all_below n b
has_if false n b = has-none b

opening-sets : (n k : ℕ) → sets (λ p. later (opening n k) p 0) ≡ open_sets n k
unfolding sets record_sets
opening-sets n k =
    λ d. record {
      N = elsewhere n n 0 N n refl d;
      mode = elsewhere n n 0 mode k refl d;
      count = elsewhere n n 0 count 0 refl d;
      up = λ a. (ap (λ x. has x a) (elsewhere n n 0 up (all_below n) refl) ∙ has-all_below n a) d;
      view = λ a b. view-sets a b d;
      message = λ m. record {
        sender = elsewhere n n 0 (message m sender) 0 refl d;
        held = λ a. empty (message m held) a refl d;
        delivered = λ a. empty (message m delivered) a refl d;
        acked = λ a b. empty (message m (acked a)) b refl d;
        unsent = λ a b. empty (message m (unsent a)) b refl d;
        in_flight = λ a b. empty (message m (in_flight a)) b refl d;
      };
    }
  where
    empty : (p : Place) (a : ℕ) → eqb 4 (key p).region ≡ false → has (later (views n 0 n) p 0) a ≡ false
    empty p a e = ap (λ x. has x a) (elsewhere n n 0 p 0 e) ∙ has-none a

    view-sets : (a b : ℕ) → has (later (views n 0 n) (view a) 0) b ≡ (ltb a n && ltb b n)
    view-sets a b =
        ap (λ x. has x b) (view-at n n 0 a 0)
        ∙ has_if (among a 0 n) n b
        ∙ ap (λ t. t && ltb b n)
        (among_below a n 0 (omega arith) ∙ ap (ltb a) (let q : 0 + n ≡ n = omega arith in q))

pub sets-opened : (L : Layout) (n k : ℕ) → is_size L n ≡ true → sets_of L (opened L n k) ≡ open_sets n k
unfolding sets_of opened
sets-opened L n k h =
    let i = opening_in L n k (size_range L n h).1 in
    let zeros : List ℕ = replicate (size L) 0 in
    ap sets
    (seen_same L (words L (opened L n k)) (λ p. later (opening n k) p 0)
    (λ p l.
    words-after L zeros (opening n k) p (length-replicate (size L) 0) i l
    ∙ ap (later (opening n k) p) (get_or-replicate (size L) (address L p) 0 0 (inside L p l)))
    ∙ seen_later L (λ p. 0) (opening n k) i
    ∙ ap (λ w. λ p. later (opening n k) p (w p)) (fun_ext (seen_nothing L)))
    ∙ opening-sets n k
