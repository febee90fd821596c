-- Names of places: two names of one place are one name, and a word whose name is not among those written stays.
use mathlib.Core.Path.{◌≡◌, refl, sym, ap, ◌∙◌}
use mathlib.Core.Bool.{Bool, true, false, false≢true}
use mathlib.Core.List.{List, [], ◌∷◌, ◌++◌}
use Prim.Native.Nat.{ℕ, zero, suc}
use lib.ListN.{get_or}
use borrow.Author.Tests.{eqb-true}
use Rattle.sets.proofs.Tests.{both}
use Rattle.bank.specs.Place.{Field, Place, Write, sender, stamp, value, held, delivered, acked, unsent, in_flight}
use Rattle.bank.specs.Place.{N, mode, count, up, view, log_length, log, message}
use Rattle.bank.specs.Layout.{in_record, region_in, index}
use Rattle.bank.specs.Opening.{views}
use Rattle.bank.proofs.Places.{Key, key, same_place}
use Rattle.bank.proofs.Reading.{later}

-- ---- two names of one place are one name: a name is read off its key

field_of : ℕ → ℕ → Field
field_of r i =
    get_or (sender ∷ stamp ∷ value ∷ held ∷ delivered ∷ acked i ∷ unsent i ∷ in_flight i ∷ []) r sender

place_of : ℕ → ℕ → ℕ → ℕ → Place
place_of r n i k =
    get_or (N ∷ mode ∷ count ∷ up ∷ view i ∷ log_length i ∷ log k i ∷ message k (field_of n i) ∷ []) r N

field_named : (f : Field) → field_of (region_in f) (index f) ≡ f
unfolding field_of
field_named sender = refl
field_named stamp = refl
field_named value = refl
field_named held = refl
field_named delivered = refl
field_named (acked i) = refl
field_named (unsent i) = refl
field_named (in_flight i) = refl

place_named : (p : Place) → place_of (key p).region (key p).run (key p).index (key p).row ≡ p
unfolding place_of
place_named N = refl
place_named mode = refl
place_named count = refl
place_named up = refl
place_named (view i) = refl
place_named (log_length i) = refl
place_named (log i k) = refl
place_named (message m f) = ap (message m) (field_named f)

pub one_name : (p q : Place) → same_place p q ≡ true → p ≡ q
one_name p q e =
    let a = both _ _ e in
    let b = both _ _ a.1 in
    let c = both _ _ b.1 in
    let region = eqb-true (key p).region (key q).region a.0 in
    let run = eqb-true (key p).run (key q).run b.0 in
    let index = eqb-true (key p).index (key q).index c.0 in
    let row = eqb-true (key p).row (key q).row c.1 in
    sym (place_named p) ∙ (λ i. place_of (region i) (run i) (index i) (row i)) ∙ place_named q

-- ---- writes to other kinds of places than a test names

module _ (t : Key → Bool) where
  abbrev pub Aside : List (Write Place) → Type 0
  Aside [] = Unit {0}
  Aside (y ∷ ys) = (t (key y.at) ≡ false) × Aside ys

  pub aside_append : (xs ys : List (Write Place)) → Aside xs → Aside ys → Aside (xs ++ ys)
  aside_append [] ys h k = k
  aside_append (x ∷ xs) ys h k = (h.0, aside_append xs ys h.1 k)

  pub record_aside : (m : ℕ) (xs : List (Write Field)) → ((f : Field) → t (key (message m f)) ≡ false)
      → Aside (in_record m xs)
  record_aside m [] h = tt
  record_aside m (x ∷ xs) h = (h x.at, record_aside m xs h)

  pub views_aside : (n i k : ℕ) → ((j : ℕ) → t (key (view j)) ≡ false) → Aside (views n i k)
  views_aside n i zero h = tt
  views_aside n i (suc k) h = (h i, views_aside n (suc i) k h)

  apart : (p q : Place) → t (key p) ≡ false → t (key q) ≡ true → same_place p q ≡ false
  apart p q hp hq = go (same_place p q) refl
    where
      go : (u : Bool) → same_place p q ≡ u → u ≡ false
      go true e = absurd (false≢true (sym hp ∙ ap (λ r. t (key r)) (one_name p q e) ∙ hq))
      go false e = refl

  pub later_aside : (ys : List (Write Place)) (p : Place) (x : ℕ) → Aside ys → t (key p) ≡ true → later ys p x ≡ x
  later_aside [] p x h d = refl
  later_aside (y ∷ ys) p x h d = rw (apart y.at p h.0 d) (later_aside ys p x h.1 d)
