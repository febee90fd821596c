-- The settler's steps are a run of settling steps; it says that none is left just where none is; its budget suffices.
use mathlib.Core.Path.{◌≡◌, refl, sym, ap, subst}
use mathlib.Core.Bool.{true, false, true≢false, false≢true}
use mathlib.Core.List.{List, [], ◌∷◌}
use mathlib.Core.Option.{Option, none, some}
use Prim.Native.Nat.{ℕ, zero, suc, ◌+◌, ◌≤◌}
use native.Mathlib.Nat.{lt_irrefl}
use native.Mathlib.Omega.{arith}
use lib.ListN.{length}
use Rattle.bank.specs.Place.{count}
use Rattle.bank.specs.Layout.{Layout, words}
use Rattle.bank.specs.Fit.{Fit}
use Rattle.refusals.specs.Step.{Step}
use Rattle.refusals.specs.Promises.{Allowed}
use Rattle.group.specs.Promises.{after}
use Rattle.bank.proofs.Rules.{pass}
use Rattle.bank.proofs.Fitness.{facts_fit}
use Rattle.group.proofs.Kept.{fit-after}
use Rattle.bank.proofs.Views.{size_range}
use Rattle.settler.specs.Candidates
use Rattle.settler.specs.Settling.{Ending, ending, on_next, settle_from, settle_of}
use Rattle.laws.specs.Runs.{Run, done, next, Ended, Settling, settlings, most}
use Rattle.laws.specs.Demand.{Reached, Finished}
use Rattle.laws.specs.Settler.{chosen}
use Rattle.laws.proofs.Visible.{visible}
use Rattle.laws.proofs.Bridge.{sets}
use Rattle.laws.proofs.Cells.{is_true}
use Rattle.laws.proofs.Onward.{kind_of}
use Rattle.laws.proofs.Work.{work, settling_work, settled_work, within-most}
use Rattle.laws.proofs.Steps.{sets_of}
use Rattle.laws.proofs.Allowing.{allowed_ok}
use Rattle.laws.proofs.Lifting.{lift_settling, reached-sets}
use Rattle.laws.proofs.Reached.{fit-run}
use Rattle.laws.proofs.Choice.{Next, next_is}
use Rattle.laws.proofs.Budget.{most-rises}

-- what an ending says of the steps es, taken from b with k taken before and d left in the budget
pub record EndingOf (L : Layout) (k d : ℕ) (b : List ℕ) (es : List Step) (o : Ending) : Type 0 where
  pub accepted : o.refusal ≡ 0
  pub run : Run (Settling (Allowed L)) (after L) b es o.bank
  pub counted : o.steps ≡ k + length es
  pub within : length es ≤ d
  -- it says that no step is left where none is; else the budget is spent and a step is left
  pub quiet : o.quiet ≡ true → Ended (Settling (Allowed L)) o.bank
  pub busy : o.quiet ≡ false → (length es ≡ d) × ((e : Step) × Settling (Allowed L) o.bank e)

module _ (L : Layout) where
  -- ---- the run

  stopped : (k d : ℕ) (b : List ℕ) → Ended (Settling (Allowed L)) b → EndingOf L k d b [] (ending 0 k true b)
  stopped k d b z =
      record {
        accepted = refl;
        run = done;
        counted = omega arith;
        within = omega arith;
        quiet = λ _. z;
        busy = λ e. absurd (true≢false e);
      }

  pub settler_from : (d k : ℕ) (b : List ℕ) → Fit L b → EndingOf L k d b (chosen L d b) (settle_from L k b d)
  unfolding chosen settle_from
  settler_from zero k b f = go (Candidates.next L b) (next_is L b f)
    where
      go : (o : Option Step) → Next L b o → EndingOf L k 0 b [] (ending 0 k (on_next o true (λ s. false)) b)
      go none n = stopped k 0 b n
      go (some s) n =
          record {
            accepted = refl;
            run = done;
            counted = omega arith;
            within = omega arith;
            quiet = λ e. absurd (false≢true e);
            busy = λ _. (refl, (s, n.0));
          }
  settler_from (suc d) k b f =
      go (Candidates.next L b) (next_is L b f) (λ s a. settler_from d (k + 1) (after L b s) (fit-after L b s a))
    where
      go : (o : Option Step) → Next L b o
          → ((s : Step) → Allowed L b s
          → EndingOf L (k + 1) d (after L b s) (chosen L d (after L b s)) (settle_from L (k + 1) (after L b s) d))
          → EndingOf L k (suc d) b (on_next o [] (λ s. s ∷ chosen L d (after L b s)))
          (on_next o (ending 0 k true b) (λ s. settle_from L (k + 1) (after L b s) d))
      go none n r = stopped k (suc d) b n
      go (some s) (o, first) r =
          let h = r s o.1 in
          record {
            accepted = h.accepted;
            run = next o h.run;
            counted = omega (arith, h.counted);
            within = omega (arith, h.within);
            quiet = h.quiet;
            busy = λ e. let x = h.busy e in (ap suc x.0, x.1);
          }

  pub settler_run : (d : ℕ) (b : List ℕ) → Fit L b → EndingOf L 0 d b (chosen L d b) (settle_of L b d)
  unfolding settle_of
  settler_run d b f =
      subst (EndingOf L 0 d b (chosen L d b)) (sym (pass (ending 1 0 false b) (facts_fit L b f) refl))
      (settler_from d 0 b f)

  module _ {k d : ℕ} {b : List ℕ} {es : List Step} {o : Ending} (h : EndingOf L k d b es o) where
    pub quiet_where_ended : Ended (Settling (Allowed L)) o.bank → o.quiet ≡ true
    quiet_where_ended z = is_true o.quiet (λ e. let left = (h.busy e).1 in z left.0 left.1)

    -- ---- the budget

    -- with a budget that covers the work no step is left
    pub settler_ends : work (sets_of L b) ≤ d → o.quiet ≡ true
    settler_ends l =
        is_true o.quiet
        (λ q.
        let (used, (e, (s, a))) = h.busy q in
        let one = settling_work (sets_of L o.bank) L.messages (kind_of e s) (allowed_ok L o.bank e a) in
        lt_irrefl d (omega (arith, used, one, settled_work L.messages (lift_settling L h.run))))

  -- ---- from opening

  module _ {n k : ℕ} {before : List Step} {b : List ℕ} (r : Reached L n k before b) where
    -- the settling steps taken and the work left stay within the paper's bound
    pub work_within-most : settlings before + work (sets_of L b) ≤ most n (words L b count)
    unfolding sets_of sets visible
    work_within-most = within-most L.messages n k (reached-sets L r)

    pub settlings-within-most : settlings before ≤ most n (words L b count)
    settlings-within-most = omega (arith, work_within-most)

    pub steps-within-most : {es : List Step} {c : List ℕ} → Run (Settling (Allowed L)) (after L) b es c
        → settlings before + length es ≤ most n (words L b count)
    steps-within-most q =
        omega (arith, work_within-most, settled_work L.messages (lift_settling L q))

    -- with a budget of that much the settler finishes
    pub settler_finishes : (d : ℕ) → most n (words L b count) ≤ d
        → ((settle_of L b d).quiet ≡ true) × Finished L b (chosen L d b) (settle_of L b d).bank
    settler_finishes d l =
        let h = settler_run d b (fit-run L n k r.sized r.known r.run) in
        let q = settler_ends h (omega (arith, work_within-most)) in
        (q, record { run = h.run; ended = h.quiet q })

    -- the largest u16 is budget enough where no bank of the layout has more to do
    pub u16_is_enough : most L.controllers L.messages ≤ 65535 → (settle_of L b 65535).quiet ≡ true
    u16_is_enough l =
        let f = fit-run L n k r.sized r.known r.run in
        let few : n ≤ L.controllers = (size_range L n r.sized).1 in
        (settler_finishes 65535 (omega (arith, most-rises few f.given))).0
