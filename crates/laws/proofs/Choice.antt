-- The step that the settler takes next: an allowed settling step of the lowest turn; none only where none is allowed.
use mathlib.Core.Path.{◌≡◌, refl, ap, ◌∙◌}
use mathlib.Core.Bool.{Bool, true, false, cond}
use mathlib.Core.Logic.{⊎_elim}
use mathlib.Core.List.Memᴰ.{head as here}
use mathlib.Core.List.Memᴰ.{tail as there}
use mathlib.Core.List.{List, [], ◌∷◌, Memᴰ as In}
use mathlib.Core.List.Memᴰ.{cases_cons as in-cons}
use mathlib.Core.List.Memᴰ.{not-nil as in-nothing}
use mathlib.Core.Option.{Option, none, some}
use Prim.Native.Nat.{ℕ, ◌≤◌}
use native.Mathlib.Omega.{arith}
use borrow.Author.Tests.{eq-eqb, eqb-true}
use Rattle.bank.specs.Place.{N, count}
use Rattle.bank.specs.Layout.{Layout, words}
use Rattle.bank.specs.Fit.{Fit}
use Rattle.refusals.specs.Step.{Step}
use Rattle.refusals.specs.Refusals.{refusal}
use Rattle.refusals.specs.Promises.{Allowed}
use Rattle.refusals.proofs.StepRules.{free_step, allowed_free}
use Rattle.settler.specs.Candidates.{candidates, first_of, free, next}
use Rattle.laws.specs.Runs.{Ended, Settling}
use Rattle.laws.specs.Settler.{turn, InTurn}
use Rattle.laws.proofs.Visible.{visible}
use Rattle.laws.proofs.Bridge.{sets}
use Rattle.laws.proofs.Cells.{clash}
use Rattle.laws.proofs.Onward.{kind_of}
use Rattle.laws.proofs.Steps.{sets_of}
use Rattle.laws.proofs.Allowing.{allowed_ok}
use Rattle.laws.proofs.Candidates.{candidates-settle, candidates_in_turn, from_turn, candidate}

-- ---- the first step of a list that passes a test

-- it stands there and passes, and in a list that is in turn no step that passes has a lower turn
pub record First (p : Step → Bool) (es : List Step) (e : Step) : Type 0 where
  pub listed : In e es
  pub passes : p e ≡ true
  pub first : (j : ℕ) → InTurn j es → (a : Step) → In a es → p a ≡ true → turn e ≤ turn a

abbrev pub Found : (Step → Bool) → List Step → Option Step → Type 0
Found p es none = (e : Step) → In e es → p e ≡ false
Found p es (some e) = First p es e

pub found : (p : Step → Bool) (es : List Step) → Found p es (first_of p es)
found p [] = λ e m. absurd (in-nothing m)
found p (x ∷ es) = go (p x) refl (first_of p es) (found p es)
  where
    go : (t : Bool) → p x ≡ t → (o : Option Step) → Found p es o → Found p (x ∷ es) (cond t (some x) o)
    go true q o f =
        record {
          listed = here refl;
          passes = q;
          first = λ j h a m _. from_turn (turn x) (x ∷ es) (omega arith, h.1) a m;
        }
    go false q none f = λ e m. ⊎_elim (λ r. ap p r ∙ q) (f e) (in-cons m)
    go false q (some e) f =
        record {
          listed = there f.listed;
          passes = f.passes;
          first =
              λ j h a m y.
              ⊎_elim (λ r. absurd (clash y (ap p r ∙ q))) (λ n. f.first (turn x) h.1 a n y) (in-cons m);
        }

-- ---- the next step of a bank

abbrev pub Next : Layout → List ℕ → Option Step → Type 0
Next L b none = Ended (Settling (Allowed L)) b
Next L b (some s) = Settling (Allowed L) b s × ((e : Step) → Settling (Allowed L) b e → turn s ≤ turn e)

module _ (L : Layout) (b : List ℕ) where
  abbrev listing : List Step
  listing = candidates (words L b N) (words L b count)

  listed : (e : Step) → Settling (Allowed L) b e → In e listing
  unfolding sets_of sets visible
  listed e (s, a) = candidate L.messages (sets_of L b) (kind_of e s) (allowed_ok L b e a)

  passes : (e : Step) → Allowed L b e → free L b e ≡ true
  passes e a = eq-eqb (refusal L (words L b) e) 0 (allowed_free L b e a)

  pub next_is : Fit L b → Next L b (next L b)
  unfolding next
  next_is f = go (first_of (free L b) listing) (found (free L b) listing)
    where
      go : (o : Option Step) → Found (free L b) listing o → Next L b o
      go none h = λ e o. clash (passes e o.1) (h e (listed e o))
      go (some e) h = (
        (
          candidates-settle (words L b N) (words L b count) e h.listed,
          free_step L b e f (eqb-true (refusal L (words L b) e) 0 h.passes),
        ),
        λ a o. h.first 0 (candidates_in_turn (words L b N) (words L b count)) a (listed a o) (passes a o.1),
      )
