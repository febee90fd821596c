-- What an opened group has and every step keeps holds at every moment: that the bank is fit; and what opening writes.
use mathlib.Core.Path.{◌≡◌, refl, ap, ◌∙◌}
use mathlib.Core.Bool.{Bool, true, not}
use mathlib.Core.List.{List, [], ◌∷◌, ◌++◌, append-nil}
use Prim.Native.Nat.{ℕ}
use lib.Dec.{eqb}
use lib.ListN.{replicate, length-replicate, get_or-replicate}
use lib.Seq.{append_snoc}
use Rattle.sets.specs.Set.{all_below}
use Rattle.bank.specs.Place.{Place, Write, ◌≔◌, N, mode, up}
use Rattle.bank.specs.Layout.{Layout, size, address, words, PlaceIn}
use Rattle.bank.specs.Fit.{Fit, is_size, is_mode}
use Rattle.bank.specs.Opening.{views, opening, opened}
use Rattle.refusals.specs.Step.{Step}
use Rattle.refusals.specs.Promises.{Allowed}
use Rattle.group.specs.Promises.{after}
use Rattle.bank.proofs.Places.{Key, key, inside}
use Rattle.bank.proofs.Reading.{later, words-after}
use Rattle.bank.proofs.Views.{size_range}
use Rattle.bank.proofs.InLayout.{opening_in}
use Rattle.bank.proofs.Fitness.{fit_opened}
use Rattle.group.proofs.Kept.{fit-after}
use Rattle.bank.proofs.Names.{views_aside, later_aside}
use Rattle.laws.specs.Above.{NoneAbove}
use Rattle.laws.specs.Runs.{Run, done, next}
use Rattle.laws.proofs.NeverAbove.{never_above}

-- P speaks of the steps taken and of the state that they led to
module _ {S E : Type 0} {allows : S → E → Type 0} {act : S → E → S} (P : List E → S → Type 0)
    (keep : (ds : List E) (s : S) (e : E) → allows s e → P ds s → P (ds ++ e ∷ []) (act s e)) where
  more : {s t : S} {es : List E} (ds : List E) → P ds s → Run allows act s es t → P (ds ++ es) t
  more ds h done = rw append-nil h
  more {s} {t} ds h (next {e = e} {es = rest} o r) = rw append_snoc at (more (ds ++ e ∷ []) (keep ds s e o h) r)

  pub along : {s t : S} {es : List E} → P [] s → Run allows act s es t → P es t
  along h r = more [] h r

-- ---- a group just opened

abbrev a_view : Key → Bool
a_view k = eqb k.region 4

-- what opening writes before the views
abbrev top : ℕ → ℕ → List (Write Place)
top n k = N ≔ n ∷ mode ≔ k ∷ up ≔ all_below n ∷ []

pub opened-word : (L : Layout) (n k : ℕ) → is_size L n ≡ true → (p : Place) → PlaceIn L p → not (a_view (key p)) ≡ true
    → words L (opened L n k) p ≡ later (top n k) p 0
unfolding opened
opened-word L n k e p h other =
    let zeros : List ℕ = replicate (size L) 0 in
    let within = opening_in L n k (size_range L n e).1 in
    words-after L zeros (opening n k) p (length-replicate (size L) 0) within h
    ∙ later_aside (λ k. not (a_view k)) (views n 0 n) p _ (views_aside (λ k. not (a_view k)) n 0 n (λ j. refl)) other
    ∙ ap (later (top n k) p) (get_or-replicate (size L) (address L p) 0 0 (inside L p h))

-- ---- the group at every moment

module _ (L : Layout) (n k : ℕ) (fits : is_size L n ≡ true) (known : is_mode k ≡ true) where
  pub fit-run : {es : List Step} {b : List ℕ} → Run (Allowed L) (after L) (opened L n k) es b → Fit L b
  fit-run r = along (λ ds b. Fit L b) (λ ds b e a f. fit-after L b e a) (fit_opened L n k fits known) r

  pub none_above : {es : List Step} {b : List ℕ} → Run (Allowed L) (after L) (opened L n k) es b → NoneAbove L b
  none_above r =
      along (λ ds b. NoneAbove L b) (λ ds b e a h. (never_above L).step b e a h) ((never_above L).opening n k fits) r
