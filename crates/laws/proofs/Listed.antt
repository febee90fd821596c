-- What an answer tells of the steps taken: a step that is not refused was allowed; a list's accepted steps are a run.
use mathlib.Core.Path.{◌≡◌, refl, sym, ap, subst, ◌∙◌}
use mathlib.Core.Bool.{Bool, true, false, cond}
use mathlib.Core.List.{List, [], ◌∷◌}
use Prim.Native.Nat.{ℕ, suc, ◌+◌, ◌%◌}
use native.Mathlib.Omega.{arith}
use lib.Dec.{eqb}
use lib.ListN.{length, length-append}
use borrow.Author.Tests.{eq-eqb, eqb-true}
use Rattle.bank.specs.Layout.{Layout, size}
use Rattle.bank.specs.Fit.{fit, is_size, is_mode}
use Rattle.bank.specs.Opening.{opened, open_of}
use Rattle.refusals.specs.Step.{asked, Asked, ask}
use Rattle.bank.specs.Rules.{◌else◌}
use Rattle.refusals.specs.Promises.{Allowed, refusal_of}
use Rattle.group.specs.Promises.{after, step_of}
use Rattle.lists.specs.Lists.{Outcome, outcome, run_from, run_of}
use Rattle.bank.proofs.Rules.{pass, all_hold}
use Rattle.group.proofs.Demand2.{demand_2}
use Rattle.laws.specs.Runs.{Run, done, next}
use Rattle.laws.specs.Calls.{asks_for, asks_first}
use Rattle.laws.proofs.Onward.{go_on}

module _ (L : Layout) where
  -- ---- a single step

  -- the step asked for, by an answer of 0: it is one, it was allowed, and the bank is the one after it
  pub stepped : (b : List ℕ) (x : Asked) → refusal_of L b x ≡ 0
      → Run (Allowed L) (after L) b (asks_for (asked x)) (step_of L b x).bank
      × (length (asks_for (asked x)) ≡ 1)
  unfolding step_of
  stepped b x e =
      let (s, q, a, d) = (demand_2 L b x).done_allowed e in
      let bank : after L b s ≡ (step_of L b x).bank = sym (ap (λ o. o.bank) d) in (
        subst (λ o. Run (Allowed L) (after L) b (asks_for o) (step_of L b x).bank) (sym q)
            (subst (Run (Allowed L) (after L) b (s ∷ [])) bank (next a done)),
        ap (λ o. length (asks_for o)) q,
      )

  -- ---- a list

  -- from b, the outcome of a list with n steps accepted before it: how many more were accepted, and that they are a run
  pub record Leads (b steps : List ℕ) (n : ℕ) (o : Outcome) : Type 0 where
    pub more : ℕ
    pub counted : o.accepted ≡ n + more
    pub run : Run (Allowed L) (after L) b (asks_first more steps) o.bank
    pub long : length (asks_first more steps) ≡ more

  stopped : (b steps : List ℕ) (n r : ℕ) → Leads b steps n (outcome n r b)
  stopped b steps n r = record { more = 0; counted = omega arith; run = done; long = refl }

  listed : (steps : List ℕ) (n : ℕ) (b : List ℕ) → Leads b steps n (run_from L n b steps)
  unfolding run_from
  listed [] n b = stopped b [] n 0
  listed (kind ∷ []) n b = stopped b (kind ∷ []) n 0
  listed (kind ∷ x ∷ []) n b = stopped b (kind ∷ x ∷ []) n 0
  listed (kind ∷ x ∷ y ∷ []) n b = stopped b (kind ∷ x ∷ y ∷ []) n 0
  listed (kind ∷ x ∷ y ∷ z ∷ rest) n b =
      go (eqb (refusal_of L b (ask kind x y z)) 0) refl (listed rest (n + 1) (step_of L b (ask kind x y z)).bank)
    where
      more : Outcome
      more = run_from L (n + 1) (step_of L b (ask kind x y z)).bank rest

      go : (t : Bool) → eqb (refusal_of L b (ask kind x y z)) 0 ≡ t
          → Leads (step_of L b (ask kind x y z)).bank rest (n + 1) more
          → Leads b (kind ∷ x ∷ y ∷ z ∷ rest) n (cond t more (outcome n (refusal_of L b (ask kind x y z)) b))
      go true e h =
          let (first, one) = stepped b (ask kind x y z) (eqb-true _ 0 e) in
          record {
            more = suc h.more;
            counted = omega (arith, h.counted);
            run = go_on first h.run;
            long = length-append (asks_for (asked (ask kind x y z))) (asks_first h.more rest)
                ∙ omega (arith, one, h.long);
          }
      go false e h = stopped b (kind ∷ x ∷ y ∷ z ∷ rest) n (refusal_of L b (ask kind x y z))

  pub run-leads : (b steps : List ℕ) → Leads b steps 0 (run_of L b steps)
  unfolding run_of
  run-leads b steps = go (fit L b) (eqb (length steps % 4) 0)
    where
      go : (s t : Bool)
          → Leads b steps 0 (cond s (cond t (run_from L 0 b steps) (outcome 0 13 b)) (outcome 0 1 b))
      go true true = listed steps 0 b
      go true false = stopped b steps 0 13
      go false t = stopped b steps 0 1

  -- ---- an opening that was not refused

  pub opening-done : (b : List ℕ) (n k : ℕ) → (open_of L b n k).refusal ≡ 0
      → (is_size L n ≡ true) × (is_mode k ≡ true) × ((open_of L b n k).bank ≡ opened L n k)
  unfolding open_of
  opening-done b n k e =
      let (_, (fits, (known, _))) =
      all_hold (eqb (length b) (size L) else 1 ∷ is_size L n else 11 ∷ is_mode k else 12 ∷ []) (tt, (tt, (tt, tt))) e in
      (fits, known, pass _ (eq-eqb _ _ e) refl)
