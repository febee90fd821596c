-- A step that is accepted: its bank is fit, it was asked for, and nothing refuses it.
use mathlib.Core.Path.{◌≡◌, refl, subst}
use mathlib.Core.Bool.{Bool, true, false, cond}
use mathlib.Core.List.{List}
use mathlib.Core.Option.{none, some}
use Prim.Native.Nat.{ℕ}
use native.Mathlib.Omega.{arith}
use borrow.Author.Tests.{ne_eqb}
use Rattle.bank.specs.Layout.{Layout}
use Rattle.bank.specs.Fit.{Fit, fit}
use Rattle.bank.proofs.Rules.{stop}
use Rattle.bank.proofs.Fitness.{fit_facts}
use Rattle.refusals.specs.Step.{Asked, Step, asked}
use Rattle.refusals.specs.Promises.{Allowed, asked_refusal, refusal_of}
use Rattle.refusals.proofs.StepRules.{free_step}

-- a refusal of 0 says that the bank is fit, that a step is asked for, and that nothing refuses it
pub not_refused_fit : (L : Layout) (b : List ℕ) (x : Asked) → refusal_of L b x ≡ 0 → Fit L b
unfolding refusal_of
not_refused_fit L b x e = fit_facts L b (go (fit L b) e)
  where
    go : (t : Bool) → cond t (asked_refusal L b (asked x)) 1 ≡ 0 → t ≡ true
    go true h = refl
    go false h = absurd (omega arith)

pub not_refused : (L : Layout) (b : List ℕ) (x : Asked) → refusal_of L b x ≡ 0
    → asked_refusal L b (asked x) ≡ 0
unfolding refusal_of
not_refused L b x e = go (fit L b) e
  where
    go : (t : Bool) → cond t (asked_refusal L b (asked x)) 1 ≡ 0 → asked_refusal L b (asked x) ≡ 0
    go true h = h
    go false h = absurd (omega arith)

pub allowed_step : (L : Layout) (b : List ℕ) (x : Asked) (s : Step) → refusal_of L b x ≡ 0
    → asked x ≡ some s → Allowed L b s
allowed_step L b x s e q =
    free_step L b s (not_refused_fit L b x e)
    (subst (λ o. asked_refusal L b o ≡ 0) q (not_refused L b x e))

-- a kind that is none of the seven asks for nothing
pub not_asked : (x : Asked) → (x.kind ≡ 1 → ⊥) → (x.kind ≡ 2 → ⊥) → (x.kind ≡ 3 → ⊥) → (x.kind ≡ 4 → ⊥)
    → (x.kind ≡ 5 → ⊥) → (x.kind ≡ 6 → ⊥) → (x.kind ≡ 7 → ⊥) → asked x ≡ none
not_asked x n1 n2 n3 n4 n5 n6 n7 =
    stop _ (ne_eqb _ _ n1)
    (stop _ (ne_eqb _ _ n2)
    (stop _ (ne_eqb _ _ n3)
    (stop _ (ne_eqb _ _ n4) (stop _ (ne_eqb _ _ n5) (stop _ (ne_eqb _ _ n6) (stop _ (ne_eqb _ _ n7) refl))))))
