-- Demand 2 of the call itself, for every bank and all numbers.
use mathlib.Core.Path.{◌≡◌, refl, ap, subst, ◌∙◌}
use mathlib.Core.List.{List}
use mathlib.Core.Option.{Option, none, some}
use Prim.Native.Nat.{ℕ}
use native.Mathlib.Omega.{arith}
use borrow.Author.Tests.{eq-eqb}
use Rattle.bank.specs.Layout.{Layout}
use Rattle.bank.specs.Opening.{answer}
use Rattle.refusals.specs.Step.{Asked, Step, asked}
use Rattle.refusals.specs.Promises.{Allowed, asked_refusal, refusal_of}
use Rattle.group.specs.Promises.{after, asked_after, step_of}
use Rattle.group.specs.Demand2.{Demand2}
use Rattle.bank.proofs.Rules.{pass}
use Rattle.refusals.proofs.StepRules.{allowed_free}
use Rattle.bank.proofs.Fitness.{facts_fit}
use Rattle.refusals.proofs.Accepted.{not_refused, allowed_step}

module _ (L : Layout) (b : List ℕ) (x : Asked) where
  -- a step that is asked for and not refused leaves its writes
  does : (s : Step) → asked x ≡ some s → refusal_of L b x ≡ 0
      → step_of L b x ≡ answer 0 (after L b s)
  unfolding step_of
  does s q e = λ i. answer (e i) (pass b (eq-eqb _ 0 e) (ap (asked_after L b) q) i)

  unrefused : (s : Step) → asked x ≡ some s → Allowed L b s → refusal_of L b x ≡ 0
  unfolding refusal_of
  unrefused s q a = pass 1 (facts_fit L b a.sound) (ap (asked_refusal L b) q ∙ allowed_free L b s a)

  asked_for : refusal_of L b x ≡ 0 → (s : Step) × (asked x ≡ some s)
  asked_for e = go (asked x) refl
    where
      go : (o : Option Step) → asked x ≡ o → (s : Step) × (asked x ≡ some s)
      go none q =
          let h : ◌≡◌ {A = ℕ} 2 0 = subst (λ o. asked_refusal L b o ≡ 0) q (not_refused L b x e) in
          absurd (omega arith)
      go (some s) q = (s, q)

  pub demand_2 : Demand2 L b x
  unfolding step_of
  demand_2 =
      record {
        allowed_done = λ s q a. does s q (unrefused s q a);
        done_allowed = λ e. (let (s, q) = asked_for e in (s, q, allowed_step L b x s e q, does s q e));
      }
