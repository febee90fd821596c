-- What settling comes to: fitness is kept, a settled bank stays so, and two budgets one after another are one.
use mathlib.Core.Path.{◌≡◌, refl, sym, ◌∙◌}
use mathlib.Core.Bool.{Bool, true, false, cond, true≢false, false≢true}
use mathlib.Core.List.{List}
use mathlib.Core.Option.{Option, none, some}
use Prim.Native.Nat.{ℕ, zero, suc, ◌+◌, ◌-◌, ◌≤◌, ◌<◌}
use native.Mathlib.Nat.{zero-add, add-zero, suc-add, add_assoc}
use native.Mathlib.Omega.{arith}
use Rattle.bank.specs.Layout.{Layout}
use Rattle.bank.specs.Fit.{Fit, fit}
use Rattle.refusals.specs.Step.{Step}
use Rattle.group.specs.Promises.{after}
use Rattle.bank.proofs.Rules.{pass, stop}
use Rattle.bank.proofs.Fitness.{fit_facts, facts_fit}
use Rattle.group.proofs.Kept.{fit-after}
use Rattle.settler.specs.Candidates.{next}
use Rattle.settler.specs.Settling.{Ending, ending, on_next, settle_from, settle_of}
use Rattle.settler.proofs.Taking.{next_allowed, Turn}

-- an ending with j more steps
abbrev pub later : ℕ → Ending → Ending
later j e = ending e.refusal (j + e.steps) e.quiet e.bank

none_left : (o : Option Step) → on_next o true (λ s. false) ≡ true → o ≡ none
none_left none e = refl
none_left (some s) e = absurd (false≢true e)

module _ (L : Layout) where
  -- ---- k steps taken, d left in the budget

  pub from_quiet : (k : ℕ) (b : List ℕ) (d : ℕ) → next L b ≡ none → settle_from L k b d ≡ ending 0 k true b
  unfolding settle_from
  from_quiet k b zero e = rw e
  from_quiet k b (suc d) e = rw e

  from_step : (k : ℕ) (b : List ℕ) (d : ℕ) (s : Step) → next L b ≡ some s
      → settle_from L k b (suc d) ≡ settle_from L (k + 1) (after L b s) d
  unfolding settle_from
  from_step k b d s e = rw e

  from_spent : (k : ℕ) (b : List ℕ) → settle_from L k b 0 ≡ ending 0 k (on_next (next L b) true (λ s. false)) b
  unfolding settle_from
  from_spent k b = refl

  pub from_end : (k d : ℕ) (b : List ℕ) → d ≤ k
      → settle_from L k b (d - k) ≡ ending 0 k (on_next (next L b) true (λ s. false)) b
  from_end k d b l = let e : d - k ≡ 0 = omega arith in rw e (from_spent k b)

  -- after the last turn of all
  pub from_last : (k d : ℕ) (b : List ℕ) → k ≡ d
      → settle_from L k b (d - k) ≡ ending 0 d (on_next (next L b) true (λ s. false)) b
  from_last k d b e = from_end k d b (omega (arith, e)) ∙ rw e

  pub from_turn : (k d : ℕ) (b c : List ℕ) → k < d → Turn L b c
      → settle_from L k b (d - k) ≡ settle_from L (k + 1) c (d - (k + 1))
  from_turn k d b c l t =
      let e : d - k ≡ suc (d - (k + 1)) = omega arith in
      rw (e, t.left) (from_step k b (d - (k + 1)) t.step t.found)

  -- what holds where none is left and where the budget is spent, and before a step where it does after it
  module _ (P : ℕ → List ℕ → ℕ → Ending → Type 0)
      (still : (k : ℕ) (b : List ℕ) (d : ℕ) → next L b ≡ none → P k b d (ending 0 k true b))
      (spent : (k : ℕ) (b : List ℕ) (s : Step) → next L b ≡ some s → P k b 0 (ending 0 k false b))
      (more : (k : ℕ) (b : List ℕ) (d : ℕ) (s : Step) (e : Ending) → next L b ≡ some s → P (k + 1) (after L b s) d e
      → P k b (suc d) e) where
    pub by_steps : (k : ℕ) (b : List ℕ) (d : ℕ) → P k b d (settle_from L k b d)
    by_steps k b zero = go (next L b) refl
      where
        go : (o : Option Step) → next L b ≡ o → P k b 0 (settle_from L k b 0)
        go none q = rw (from_quiet k b 0 q) (still k b 0 q)
        go (some s) q = rw (from_spent k b, q) (spent k b s q)
    by_steps k b (suc d) = go (next L b) refl (λ c. by_steps (k + 1) c d)
      where
        go : (o : Option Step) → next L b ≡ o → ((c : List ℕ) → P (k + 1) c d (settle_from L (k + 1) c d))
            → P k b (suc d) (settle_from L k b (suc d))
        go none q h = rw (from_quiet k b (suc d) q) (still k b (suc d) q)
        go (some s) q h = rw (from_step k b d s q) (more k b d s _ q (h (after L b s)))

  from_fit : (k : ℕ) (b : List ℕ) (d : ℕ) → Fit L b → Fit L (settle_from L k b d).bank
  from_fit =
      by_steps (λ k b d e. Fit L b → Fit L e.bank) (λ k b d q f. f) (λ k b s q f. f)
      (λ k b d s e q h f. h (fit-after L b s (next_allowed L b s f q)))

  -- whether a step is left
  from_left : (k : ℕ) (b : List ℕ) (d : ℕ)
      → (settle_from L k b d).quiet ≡ on_next (next L (settle_from L k b d).bank) true (λ s. false)
  from_left =
      by_steps (λ k b d e. e.quiet ≡ on_next (next L e.bank) true (λ s. false)) (λ k b d q. rw q) (λ k b s q. rw q)
      (λ k b d s e q h. h)

  from_accepted : (k : ℕ) (b : List ℕ) (d : ℕ) → (settle_from L k b d).refusal ≡ 0
  from_accepted = by_steps (λ k b d e. e.refusal ≡ 0) (λ k b d q. refl) (λ k b s q. refl) (λ k b d s e q h. h)

  -- the steps are within the budget, and where one is left the budget is spent
  from_steps : (k : ℕ) (b : List ℕ) (d : ℕ)
      → ((settle_from L k b d).steps ≤ k + d)
      × ((settle_from L k b d).quiet ≡ false → (settle_from L k b d).steps ≡ k + d)
  from_steps =
      by_steps (λ k b d e. (e.steps ≤ k + d) × (e.quiet ≡ false → e.steps ≡ k + d))
      (λ k b d q. (omega arith, λ z. absurd (true≢false z)))
      (λ k b s q. (omega arith, λ z. omega arith))
      (λ k b d s e q h. (omega arith, λ z. omega (arith, h.1 z)))

  from_later : (j k : ℕ) (b : List ℕ) (d : ℕ) → settle_from L (j + k) b d ≡ later j (settle_from L k b d)
  from_later j =
      by_steps (λ k b d e. settle_from L (j + k) b d ≡ later j e)
      (λ k b d q. from_quiet (j + k) b d q)
      (λ k b s q. from_spent (j + k) b ∙ rw q)
      (λ k b d s e q h. from_step (j + k) b d s q ∙ rw add_assoc h)

  from_joined : (d k : ℕ) (b : List ℕ) (c : ℕ)
      → settle_from L k b (c + d) ≡ settle_from L (settle_from L k b c).steps (settle_from L k b c).bank d
  from_joined d =
      by_steps (λ k b c e. settle_from L k b (c + d) ≡ settle_from L e.steps e.bank d)
      (λ k b c q. from_quiet k b (c + d) q ∙ sym (from_quiet k b d q))
      (λ k b s q. rw zero-add)
      (λ k b c s e q h. rw suc-add (from_step k b (c + d) s q ∙ h))

  -- ---- from the beginning

  module _ (b : List ℕ) (d : ℕ) where
    pub settle_begins : fit L b ≡ true → settle_of L b d ≡ settle_from L 0 b d
    unfolding settle_of
    settle_begins f = pass _ f refl

    pub settle_unfit : fit L b ≡ false → settle_of L b d ≡ ending 1 0 false b
    unfolding settle_of
    settle_unfit f = stop _ f refl

    -- what holds of the ending of a fit bank and of an unfit one
    either : (P : Ending → Type 0) → (fit L b ≡ true → P (settle_from L 0 b d))
        → (fit L b ≡ false → P (ending 1 0 false b)) → P (settle_of L b d)
    either P sound unfit = go (fit L b) refl
      where
        go : (t : Bool) → fit L b ≡ t → P (settle_of L b d)
        go true f = rw (settle_begins f) (sound f)
        go false f = rw (settle_unfit f) (unfit f)

    pub settle-refusal : (settle_of L b d).refusal ≡ cond (fit L b) 0 1
    settle-refusal =
        either (λ e. e.refusal ≡ cond (fit L b) 0 1) (λ f. rw f (from_accepted 0 b d)) (λ f. rw f)

    pub fit_settled : fit L (settle_of L b d).bank ≡ fit L b
    fit_settled =
        either (λ e. fit L e.bank ≡ fit L b) (λ f. facts_fit L _ (from_fit 0 b d (fit_facts L b f)) ∙ sym f)
        (λ f. refl)

    pub steps-within : (settle_of L b d).steps ≤ d
    steps-within = either (λ e. e.steps ≤ d) (λ f. omega (arith, (from_steps 0 b d).0)) (λ f. omega arith)

    pub spent_where_left : fit L b ≡ true → (settle_of L b d).quiet ≡ false → (settle_of L b d).steps ≡ d
    spent_where_left =
        either (λ e. fit L b ≡ true → e.quiet ≡ false → e.steps ≡ d) (λ f g z. omega (arith, (from_steps 0 b d).1 z))
        (λ f g. absurd (false≢true (sym f ∙ g)))

    pub quiet-settles : fit L b ≡ true → next L b ≡ none → settle_of L b d ≡ ending 0 0 true b
    quiet-settles f q = settle_begins f ∙ from_quiet 0 b d q

    -- of a fit bank the answer is whether a step is left, and of an unfit one it is never that none is
    pub quiet-says : fit L b ≡ true
        → (settle_of L b d).quiet ≡ on_next (next L (settle_of L b d).bank) true (λ s. false)
    quiet-says f = rw (settle_begins f) (from_left 0 b d)

    pub quiet-fit : (settle_of L b d).quiet ≡ true → fit L b ≡ true
    quiet-fit = either (λ e. e.quiet ≡ true → fit L b ≡ true) (λ f z. f) (λ f z. absurd (false≢true z))

    pub quiet_left : (settle_of L b d).quiet ≡ true → next L (settle_of L b d).bank ≡ none
    quiet_left z = none_left _ (sym (quiet-says (quiet-fit z)) ∙ z)

  pub settled_stays : (b : List ℕ) (d e : ℕ) → (settle_of L b d).quiet ≡ true
      → settle_of L (settle_of L b d).bank e ≡ ending 0 0 true (settle_of L b d).bank
  settled_stays b d e z = quiet-settles _ e (fit_settled b d ∙ quiet-fit b d z) (quiet_left b d z)

  -- a budget of c and then one of d are one of c + d
  pub settle_joined : (b : List ℕ) (c d : ℕ)
      → let one = settle_of L b c in settle_of L b (c + d) ≡ later one.steps (settle_of L one.bank d)
  settle_joined b c d = go (fit L b) refl
    where
      go : (t : Bool) → fit L b ≡ t
          → settle_of L b (c + d) ≡ later (settle_of L b c).steps (settle_of L (settle_of L b c).bank d)
      go true f =
          let one : Ending = settle_from L 0 b c in
          let sound : fit L one.bank ≡ true = facts_fit L _ (from_fit 0 b c (fit_facts L b f)) in
          rw (settle_begins b (c + d) f, settle_begins b c f, settle_begins one.bank d sound)
          (from_joined d 0 b c ∙ (rw add-zero at (from_later one.steps 0 one.bank d)))
      go false f = rw (settle_unfit b (c + d) f, settle_unfit b c f, settle_unfit b d f)
