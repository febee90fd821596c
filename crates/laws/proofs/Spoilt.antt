-- Settling ends on every fit bank: what its sets have before them is bounded, whatever they hold.
use mathlib.Core.Path.{◌≡◌, refl, sym, ap, ◌∙◌}
use mathlib.Core.Bool.{Bool, true, false, cond}
use mathlib.Core.List.{List}
use Prim.Native.Nat.{ℕ, ◌≤◌}
use native.Mathlib.Omega.{arith}
use lib.ListN.{length}
use Rattle.bank.specs.Place.{N, count}
use Rattle.bank.specs.Layout.{Layout, paper, layout, words}
use Rattle.bank.specs.Fit.{Fit, fit}
use Rattle.refusals.specs.Step.{Step}
use Rattle.refusals.specs.Promises.{Allowed}
use Rattle.group.specs.Promises.{after}
use Rattle.bank.proofs.Fitness.{fit_facts}
use Rattle.bank.proofs.Rooms.{few, short}
use Rattle.settler.specs.Settling.{Ending, settle_of, SettlePromise}
use Rattle.settler.proofs.Endings.{settle_unfit}
use Rattle.loargwen.specs.Bytes.{words_of}
use Rattle.loargwen.specs.Face.{is_bank, bytes_after, flag, settled_bytes, SettleBytes}
use Rattle.laws.specs.Runs.{Run, Settling, most_of_any}
use Rattle.laws.specs.Spoilt.{AlwaysEnds}
use Rattle.laws.proofs.Visible.{visible}
use Rattle.laws.proofs.Bridge.{sets}
use Rattle.laws.proofs.Cells.{is_true}
use Rattle.laws.proofs.Steps.{sets_of}
use Rattle.laws.proofs.Lifting.{lift_settling}
use Rattle.laws.proofs.Work.{work, settled_work, any-within-most}
use Rattle.laws.proofs.Budget.{any-rises, any_full_bank}
use Rattle.laws.proofs.Settler.{settler_run, settler_ends}

module _ (L : Layout) (b : List ℕ) where
  abbrev bound : ℕ
  bound = most_of_any (words L b N) (words L b count)

  within_bound : work (sets_of L b) ≤ bound
  unfolding sets_of sets visible
  within_bound = any-within-most (sets_of L b)

  steps-within : {es : List Step} {x : List ℕ} → Run (Settling (Allowed L)) (after L) b es x → length es ≤ bound
  steps-within r = omega (arith, within_bound, settled_work L.messages (lift_settling L r))

  quiet-within : Fit L b → (d : ℕ) → bound ≤ d → (settle_of L b d).quiet ≡ true
  quiet-within f d l = settler_ends L (settler_run L d b f) (omega (arith, within_bound))

-- ---- at either size

module _ (room : Bool) where
  abbrev sized : Layout
  sized = layout room

  full : (b : List ℕ) → Fit sized b → bound sized b ≤ 41712
  full b f =
      let n : words sized b N ≤ 16 = omega (arith, f.few, few room) in
      let c : words sized b count ≤ 32 = omega (arith, f.given, short room) in
      omega (arith, any_full_bank, any-rises n c)

  full_enough : (b : List ℕ) → Fit sized b → (d : ℕ) → 41712 ≤ d → (settle_of sized b d).quiet ≡ true
  full_enough b f d l = quiet-within sized b f d (omega (arith, full b f))

  answered_fit : (b : List ℕ) (d : ℕ) → (settle_of sized b d).refusal ≡ 0 → Fit sized b
  answered_fit b d e =
      fit_facts sized b
      (is_true (fit sized b) (λ u. omega (arith, ap (λ (o : Ending). o.refusal) (settle_unfit sized b d u))))

  one_call : (b b' : List ℕ) (r k : ℕ) (q : Bool) → SettlePromise sized b 65535 r k q b'
      → r ≡ 0 → (k ≤ 41712) × (q ≡ true)
  one_call b b' r k q p z =
      let f = answered_fit b 65535 (sym (ap (λ (o : Ending). o.refusal) p) ∙ z) in
      let h = settler_run sized 65535 b f in (
        omega (arith, ap (λ (o : Ending). o.steps) p, h.counted, steps-within sized b h.run, full b f),
        ap (λ (o : Ending). o.quiet) p ∙ full_enough b f 65535 (omega arith),
      )

-- on bytes an answer of 0 is that of a bank's, with 1 for quiet
one-c_call : (bytes new : List ℕ) (r k q : ℕ) → SettleBytes bytes 65535 r k q new
    → r ≡ 0 → (k ≤ 41712) × (q ≡ 1)
one-c_call bytes new r k q p z = go (is_bank bytes) p
  where
    due : Ending
    due = settle_of paper (words_of bytes) 65535

    go : (t : Bool)
        → settled_bytes r k q new
        ≡ cond t
        (settled_bytes due.refusal due.steps (flag due.quiet) (bytes_after bytes due.refusal due.bank))
        (settled_bytes 1 0 0 bytes)
        → (k ≤ 41712) × (q ≡ 1)
    go true e =
        let (few, quiet) =
        one_call false (words_of bytes) due.bank due.refusal due.steps due.quiet refl
        (sym (ap (λ o. o.refusal) e) ∙ z) in
        (omega (arith, ap (λ o. o.steps) e, few), ap (λ o. o.quiet) e ∙ ap flag quiet)
    go false e = absurd (omega (arith, ap (λ o. o.refusal) e))

pub always_ends : AlwaysEnds
always_ends =
    record {
      bounded = λ L b es x r. steps-within L b r;
      enough = quiet-within;
      rises = λ n n' c c' l k. any-rises l k;
      fullest = any_full_bank;
      u16_always_enough = λ room b f. full_enough room b f _ (omega arith);
      one_call = one_call;
      one-c_call = one-c_call;
    }
