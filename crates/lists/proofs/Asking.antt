-- A question about a log: which of its two tests decides, and what holds where neither refuses.
use mathlib.Core.Path.{◌≡◌, refl, sym, ◌∙◌}
use mathlib.Core.Bool.{Bool, true, false}
use mathlib.Core.List.{List}
use Prim.Native.Nat.{ℕ, ◌≤◌, ◌<◌}
use native.Mathlib.Omega.{arith}
use borrow.Author.Tests.{eq-eqb, ne_eqb, ltb-true, leb-true}
use lib.ListN.{length}
use Rattle.sets.proofs.Counts.{every-at}
use Rattle.bank.specs.Place.{N, count, log_length, log}
use Rattle.bank.specs.Layout.{Layout, address, size, words}
use Rattle.bank.specs.Fit.{Fit, fit, log_fits}
use Rattle.refusals.specs.State.{is_controller}
use Rattle.lists.specs.Logs.{log_refusal, used_length}
use Rattle.bank.proofs.Places.{log-within}
use Rattle.bank.proofs.Rules.{pass, stop}
use Rattle.bank.proofs.Fitness.{fit_facts}

module _ (L : Layout) (b : List ℕ) (who : ℕ) where
  pub log_unfit : fit L b ≡ false → log_refusal L b who ≡ 1
  log_unfit f = stop _ f refl

  pub log-absent : fit L b ≡ true → is_controller (words L b) who ≡ false → log_refusal L b who ≡ 3
  log-absent f e = pass _ f (stop _ e refl)

  pub log_there : fit L b ≡ true → is_controller (words L b) who ≡ true → log_refusal L b who ≡ 0
  log_there f e = pass _ f (pass _ e refl)

  -- a refused question answers 0
  pub no_length : (r : ℕ) → log_refusal L b who ≡ r → (r ≡ 0 → ⊥) → used_length L b who ≡ 0
  no_length r e z = stop _ (ne_eqb _ _ (λ q. z (sym e ∙ q))) refl

  pub whole_length : log_refusal L b who ≡ 0 → used_length L b who ≡ words L b (log_length who)
  whole_length e = pass _ (eq-eqb _ _ e) refl

  -- what a question that is not refused knows
  pub record Known : Type 0 where
    pub sound : Fit L b
    pub there : who < words L b N
    pub short : words L b (log_length who) ≤ words L b count

  pub log-asked : log_refusal L b who ≡ 0 → Known
  log-asked e = go (fit L b) refl (is_controller (words L b) who) refl
    where
      go : (t : Bool) → fit L b ≡ t → (u : Bool) → is_controller (words L b) who ≡ u → Known
      go false f u q = let z : ◌≡◌ {A = ℕ} 1 0 = sym (log_unfit f) ∙ e in absurd (omega arith)
      go true f false q = let z : ◌≡◌ {A = ℕ} 3 0 = sym (log-absent f q) ∙ e in absurd (omega arith)
      go true f true q =
          let s = fit_facts L b f in
          let l = ltb-true who (words L b N) q in
          record {
            sound = s;
            there = l;
            short = leb-true _ _ (every-at (log_fits (words L b)) (words L b N) s.logs who l);
          }

  -- the used part ends within the bank
  pub log_ends : (n : ℕ) → log_refusal L b who ≡ 0 → n ≡ used_length L b who → address L (log who n) ≤ length b
  log_ends n e q =
      let k = log-asked e in
      let w = whole_length e in
      let at : address L (log who n) ≤ size L =
      log-within L who n (omega (arith, k.there, k.sound.few)) (omega (arith, k.short, k.sound.given)) in
      omega (arith, k.sound.whole)
