-- A size in range, and the views that opening writes for it, one controller after another.
use mathlib.Core.Path.{◌≡◌}
use mathlib.Core.Bool.{true}
use mathlib.Core.List.{[], ◌∷◌}
use Prim.Native.Nat.{ℕ, suc, ◌+◌, ◌-◌, ◌≤◌, ◌<◌}
use native.Mathlib.Numerals.{add-one}
use native.Mathlib.Omega.{arith}
use lib.Dec.{leb}
use borrow.Author.Tests.{leb-true}
use Rattle.sets.proofs.Tests.{both}
use Rattle.sets.specs.Set.{all_below}
use Rattle.bank.specs.Place.{◌≔◌, view}
use Rattle.bank.specs.Layout.{Layout}
use Rattle.bank.specs.Fit.{is_size}
use Rattle.bank.specs.Opening.{views}

pub size_range : (L : Layout) (n : ℕ) → is_size L n ≡ true → (1 ≤ n) × (n ≤ L.controllers)
size_range L n e =
    let b = both (leb 1 n) (leb n L.controllers) e in (leb-true _ _ b.0, leb-true _ _ b.1)

pub views-more : (n i : ℕ) → i < n → views n i (n - i) ≡ view i ≔ all_below n ∷ views n (i + 1) (n - (i + 1))
views-more n i l = let e : n - i ≡ suc (n - (i + 1)) = omega arith in rw (e, add-one)

pub views-none : (n i : ℕ) → n ≤ i → views n i (n - i) ≡ []
views-none n i l = let e : n - i ≡ 0 = omega arith in rw e
