-- Runs of a bank are runs of its sets.
use mathlib.Core.Path.{subst}
use mathlib.Core.List.{List}
use Prim.Native.Nat.{ℕ}
use Rattle.bank.specs.Layout.{Layout}
use Rattle.refusals.specs.Step.{Step}
use Rattle.refusals.specs.Promises.{Allowed}
use Rattle.group.specs.Promises.{after}
use Rattle.laws.specs.Runs.{Run, done, next, Settling}
use Rattle.laws.specs.Demand.{Reached}
use Rattle.laws.proofs.Sets.{Sets, Ok, act, open_sets}
use Rattle.laws.proofs.Steps.{sets_of, sets-after}
use Rattle.laws.proofs.Allowing.{allowed_ok}
use Rattle.laws.proofs.Opened.{sets-opened}
use Rattle.laws.proofs.Keep.{Inv, open_inv, run_inv}

module _ (L : Layout) where
  -- a run of the steps that `allows` allows, where each is allowed of the sets too
  lift : (allows : List ℕ → Step → Type 0) (ok : Sets → Step → Type 0)
      → ((b : List ℕ) (e : Step) → allows b e → Allowed L b e)
      → ((b : List ℕ) (e : Step) → allows b e → ok (sets_of L b) e)
      → {b c : List ℕ} {es : List Step} → Run allows (after L) b es c → Run ok act (sets_of L b) es (sets_of L c)
  lift allows ok into turn done = done
  lift allows ok into turn {b} {c} (next {e = e} {es = es} o r) =
      next (turn b e o)
      (subst (λ s. Run ok act s es (sets_of L c)) (sets-after L b e (into b e o)) (lift allows ok into turn r))

  pub lift_run : {b c : List ℕ} {es : List Step} → Run (Allowed L) (after L) b es c
      → Run (Ok L.messages) act (sets_of L b) es (sets_of L c)
  lift_run r = lift (Allowed L) (Ok L.messages) (λ b e a. a) (λ b e a. allowed_ok L b e a) r

  pub lift_settling : {b c : List ℕ} {es : List Step} → Run (Settling (Allowed L)) (after L) b es c
      → Run (Settling (Ok L.messages)) act (sets_of L b) es (sets_of L c)
  lift_settling r =
      lift (Settling (Allowed L)) (Settling (Ok L.messages)) (λ b e a. a.1) (λ b e a. (
        a.0,
        allowed_ok L b e
            a.1,
      )) r

  pub reached-sets : {n k : ℕ} {before : List Step} {b : List ℕ} → Reached L n k before b
      → Run (Ok L.messages) act (open_sets n k) before (sets_of L b)
  reached-sets {n} {k} {before} {b} r =
      subst (λ s. Run (Ok L.messages) act s before (sets_of L b)) (sets-opened L n k r.sized) (lift_run r.run)

  pub reached_inv : {n k : ℕ} {before : List Step} {b : List ℕ} → Reached L n k before b → Inv (sets_of L b)
  reached_inv {n} {k} r = run_inv L.messages (open_inv n k) (reached-sets r)
