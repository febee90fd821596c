-- The test of a bank and the facts that it stands for; which words decide it; opening makes a fit bank.
use mathlib.Core.Path.{◌≡◌, refl, ◌∙◌}
use mathlib.Core.Bool.{Bool, true, ◌||◌}
use mathlib.Core.List.{List, [], ◌∷◌}
use Prim.Native.Nat.{ℕ, ◌≤◌, ◌<◌}
use native.Mathlib.Omega.{arith}
use lib.Dec.{eqb}
use lib.ListN.{length, replicate, length-replicate}
use borrow.Author.Tests.{eqb-true, leb-true, eq-eqb, ne_eqb, le-leb}
use Rattle.sets.specs.Set.{all_below}
use Rattle.sets.proofs.Tests.{both}
use Rattle.sets.proofs.Counts.{every_is, every-at}
use Rattle.bank.specs.Place.{Place, Words, Write, ◌≔◌, N, mode, count, up, log_length}
use Rattle.bank.specs.Layout.{Layout, size, address, words, PlaceIn}
use Rattle.bank.specs.Fit.{Fit, fit, is_size, is_mode}
use Rattle.bank.specs.Opening.{views, opening, opened, open_of}
use Rattle.bank.proofs.Places.{Key, key}
use Rattle.bank.proofs.Reading.{later, length-puts}
use Rattle.bank.proofs.Rules.{stop}
use Rattle.bank.proofs.Views.{size_range}
use Rattle.bank.proofs.Names.{views_aside, later_aside}
use Rattle.bank.proofs.InLayout.{word-opened}

pub fit_facts : (L : Layout) (b : List ℕ) → fit L b ≡ true → Fit L b
fit_facts L b e =
    let p1 = both _ _ e in
    let p2 = both _ _ p1.1 in
    let p3 = both _ _ p2.0 in
    let p4 = both _ _ p2.1 in
    let p5 = both _ _ p4.1 in
    record {
      whole = eqb-true _ _ p1.0;
      some = leb-true _ _ p3.0;
      few = leb-true _ _ p3.1;
      known = p4.0;
      given = leb-true _ _ p5.0;
      logs = p5.1;
    }

pub facts_fit : (L : Layout) (b : List ℕ) → Fit L b → fit L b ≡ true
facts_fit L b f =
    rw (eq-eqb _ _ f.whole, le-leb _ _ f.some, le-leb _ _ f.few, f.known, le-leb _ _ f.given) f.logs

-- ---- the words that decide whether a bank is fit

-- N, mode, count and the log lengths, by their regions
abbrev pub weighty : Key → Bool
weighty k = eqb k.region 0 || (eqb k.region 1 || (eqb k.region 2 || eqb k.region 5))

abbrev pub decides : Place → Bool
decides p = weighty (key p)

-- what makes words fit
pub record Sound (L : Layout) (w : Words) : Type 0 where
  pub header : (1 ≤ w N) × (w N ≤ L.controllers) × (is_mode (w mode) ≡ true)
  pub given : w count ≤ L.messages
  pub logs : (i : ℕ) → i < w N → w (log_length i) ≤ w count

module _ (L : Layout) where
  -- words that agree where it matters are fit together
  pub alike : (v w : Words) → ((p : Place) → decides p ≡ true → PlaceIn L p → w p ≡ v p) → Sound L v → Sound L w
  alike v w e s =
      let n : w N ≡ v N = e N refl tt in
      let c : w count ≡ v count = e count refl tt in
      record {
        header = rw (n, e mode refl tt) s.header;
        given = rw c s.given;
        logs = λ i l. omega (arith, e (log_length i) refl (omega (arith, s.header.1)), s.logs i (omega arith));
      }

  pub fit-sound : (b : List ℕ) → Fit L b → Sound L (words L b)
  fit-sound b f =
      record {
        header = (f.some, f.few, f.known);
        given = f.given;
        logs = λ i l. leb-true _ _ (every-at _ _ f.logs i l);
      }

  pub sound-fit : (b : List ℕ) → length b ≡ size L → Sound L (words L b) → Fit L b
  sound-fit b l s =
      record {
        whole = l;
        some = s.header.0;
        few = s.header.1;
        known = s.header.2;
        given = s.given;
        logs = every_is _ _ (λ i h. le-leb _ _ (s.logs i h));
      }

  -- ---- an opening

  pub fit_opened : (n k : ℕ) → is_size L n ≡ true → is_mode k ≡ true → Fit L (opened L n k)
  unfolding opened
  fit_opened n k e known =
      let r = size_range L n e in
      let top : List (Write Place) = N ≔ n ∷ mode ≔ k ∷ up ≔ all_below n ∷ [] in
      sound-fit _ (length-puts (address L) (replicate (size L) 0) (opening n k) ∙ length-replicate (size L) 0)
      (alike (λ p. later top p 0) _
      (λ p d h. word-opened L n k e p h
      ∙ later_aside weighty (views n 0 n) p _ (views_aside weighty n 0 n (λ i. refl)) d)
      (record { header = (r.0, r.1, known); given = omega arith; logs = λ i h. omega arith }))

  pub open_refused-leaves : (b : List ℕ) (n k : ℕ) → ((open_of L b n k).refusal ≡ 0 → ⊥) → (open_of L b n k).bank ≡ b
  unfolding open_of
  open_refused-leaves b n k h = stop _ (ne_eqb _ 0 h) refl
