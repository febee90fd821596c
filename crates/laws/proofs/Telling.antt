-- What a settling answers tells of every order: the steps that it took, whether any is left, and how all orders end.
use mathlib.Core.Path.{◌≡◌, refl, sym, ap, subst, ◌∙◌}
use mathlib.Core.List.{List, [], ◌∷◌}
use mathlib.Core.Option.{Option, none, some}
use Prim.Native.Nat.{ℕ, zero, suc, ◌≤◌}
use native.Mathlib.Nat.{zero-add}
use lib.ListN.{length}
use Rattle.bank.specs.Layout.{Layout}
use Rattle.refusals.specs.Step.{Step}
use Rattle.refusals.specs.Promises.{Allowed}
use Rattle.group.specs.Promises.{after}
use Rattle.settler.specs.Candidates
use Rattle.settler.specs.Settling.{on_next, settle_of}
use Rattle.laws.specs.Runs.{Run, Settling}
use Rattle.laws.specs.Demand.{Reached}
use Rattle.laws.specs.Settler.{chosen, Tells}
use Rattle.laws.proofs.Ends.{reached-fit, same_end}
use Rattle.laws.proofs.Settler.{settler_run, quiet_where_ended}

module _ (L : Layout) where
  -- a budget of as many steps as were taken takes the same
  chosen_again : (d : ℕ) (b : List ℕ) → chosen L (length (chosen L d b)) b ≡ chosen L d b
  unfolding chosen
  chosen_again zero b = refl
  chosen_again (suc d) b = go (Candidates.next L b) refl (λ s. chosen_again d (after L b s))
    where
      rest : Step → List Step
      rest s = chosen L d (after L b s)

      go : (o : Option Step) → Candidates.next L b ≡ o
          → ((s : Step) → chosen L (length (rest s)) (after L b s) ≡ rest s)
          → chosen L (length (on_next o [] (λ s. s ∷ rest s))) b ≡ on_next o [] (λ s. s ∷ rest s)
      go none e again = refl
      go (some s) e again =
          ap (λ o. on_next o [] (λ s'. s' ∷ chosen L (length (rest s)) (after L b s'))) e
          ∙ ap (λ es. s ∷ es) (again s)

  pub settler_tells : {n k : ℕ} {before : List Step} {b : List ℕ} → Reached L n k before b → (d : ℕ)
      → Tells L b d (settle_of L b d)
  settler_tells {n} {k} {b = b} r d =
      let h = settler_run L d b (reached-fit L n k r) in
      let long : (settle_of L b d).steps ≡ length (chosen L d b) = h.counted ∙ zero-add _ in
      let same : chosen L (settle_of L b d).steps b ≡ chosen L d b = ap (λ t. chosen L t b) long ∙ chosen_again d b in
      record {
        accepted = h.accepted;
        taken = subst (λ es. Run (Settling (Allowed L)) (after L) b es (settle_of L b d).bank) (sym same) h.run;
        counted = ap length same ∙ sym long;
        within = subst (λ t. t ≤ d) (sym long) h.within;
        quiet = h.quiet;
        ended = quiet_where_ended L h;
        spent = λ q. long ∙ (h.busy q).0;
        every_order = λ q es x p.
            (let e = same_end L n k r (record { run = h.run; ended = h.quiet q }) p in (long ∙ e.0, e.1));
      }
