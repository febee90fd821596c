-- The records of a file one after another: what one record comes to, and how the answer from a place on goes over it.
use mathlib.Core.Path.{◌≡◌, refl, sym, ap, ◌∙◌}
use mathlib.Core.Bool.{Bool, true, false, cond}
use mathlib.Core.List.{List}
use Prim.Native.Nat.{ℕ, zero, suc, ◌+◌, ◌≤◌}
use native.Mathlib.Nat.{add-zero}
use native.Mathlib.Omega.{arith}
use lib.Dec.{eqb}
use lib.ListN.{length}
use borrow.Author.Tests.{eq-eqb, ne_eqb}
use Rattle.bank.specs.Layout.{paper}
use Rattle.bank.specs.Fit.{fit}
use Rattle.bank.specs.Opening.{answer}
use Rattle.refusals.specs.Step.{Asked, ask}
use Rattle.group.specs.Promises.{step_of}
use Rattle.bank.proofs.Rules.{pass, stop}
use Rattle.group.proofs.Kept.{fit-step}
use Rattle.settler.specs.Settling.{ending, settle_of}
use Rattle.settler.proofs.Endings.{fit_settled}
use Rattle.file.specs.Records.{Found, end, bad, got, settle_kind, find_at}
use Rattle.file.proofs.Finding.{finds_end, Onward, goes_onward}
use Rattle.report.specs.Bench.{State, state, after_settle, after_step, applied, on_found, unless_refused, play_from}

-- ---- one record

module _ (k : ℕ) (b : List ℕ) (x : Asked) where
  pub applies_settle : {r j : ℕ} {q : Bool} {c : List ℕ} → x.kind ≡ settle_kind
      → ending r j q c ≡ settle_of paper b x.a
      → state (k + j) r c ≡ applied k b x
  unfolding applied
  applies_settle e p = rw e (ap (after_settle k) p)

  module _ {r : ℕ} {c : List ℕ} (other : x.kind ≡ settle_kind → ⊥) (p : answer r c ≡ step_of paper b x) where
    applies_step : state (k + cond (eqb r 0) 1 0) r c ≡ applied k b x
    unfolding applied
    applies_step = ap (after_step k) p ∙ sym (stop _ (ne_eqb _ _ other) refl)

    pub applies_accepted : r ≡ 0 → state (k + 1) 0 c ≡ applied k b x
    applies_accepted e = rw e at applies_step

    pub applies_refused : (r ≡ 0 → ⊥) → state k r c ≡ applied k b x
    applies_refused e = rw (ne_eqb r 0 e, add-zero) at applies_step

  pub fit-applied : fit paper b ≡ true → fit paper (applied k b x).bank ≡ true
  unfolding applied
  fit-applied f = go (eqb x.kind settle_kind)
    where
      go : (t : Bool)
          → fit paper
          (cond t (after_settle k (settle_of paper b x.a)) (after_step k (step_of paper b x))).bank ≡ true
      go true = fit_settled paper b x.a ∙ f
      go false = fit-step paper b x f

-- ---- from a place on

module _ (s : List ℕ) where
  -- a bound on the records that reaches the file's end is as good as another
  enough : (d e i k : ℕ) (b : List ℕ) → length s ≤ d + i → length s ≤ e + i → play_from d s i k b ≡ play_from e s i k b
  unfolding play_from
  enough zero zero i k b h l = refl
  enough zero (suc e) i k b h l = rw (← finds_end s i (omega arith))
  enough (suc d) zero i k b h l = rw (← finds_end s i (omega arith))
  enough (suc d) (suc e) i k b h l = go (find_at s i) (goes_onward s i) (enough d e)
    where
      go : (f : Found) → Onward s i f
          → ((j k : ℕ) (b : List ℕ) → length s ≤ d + j → length s ≤ e + j → play_from d s j k b ≡ play_from e s j k b)
          → on_found f (state k 0 b) (λ r. state k r b)
          (λ x j. unless_refused (applied k b x) (λ t. play_from d s j t.steps t.bank))
          ≡ on_found f (state k 0 b) (λ r. state k r b)
          (λ x j. unless_refused (applied k b x) (λ t. play_from e s j t.steps t.bank))
      go end n more = refl
      go (bad r) n more = refl
      go (got kind x y z j) n more =
          let t : State = applied k b (ask kind x y z) in
          ap (λ u. cond (eqb t.refusal 0) u t) (more j t.steps t.bank (omega arith) (omega arith))

  module _ (i k : ℕ) (b : List ℕ) where
    one_more : play_from (length s) s i k b ≡ play_from (suc (length s)) s i k b
    one_more = enough (length s) (suc (length s)) i k b (omega arith) (omega arith)

    pub plays_end : end ≡ find_at s i → state k 0 b ≡ play_from (length s) s i k b
    unfolding play_from
    plays_end e = sym (one_more ∙ rw (← e))

    pub plays_bad : (r : ℕ) → bad r ≡ find_at s i → state k r b ≡ play_from (length s) s i k b
    unfolding play_from
    plays_bad r e = sym (one_more ∙ rw (← e))

    module _ (x : Asked) (j : ℕ) (e : got x.kind x.a x.b x.c j ≡ find_at s i) {k' r : ℕ} {b' : List ℕ}
        (p : state k' r b' ≡ applied k b x) where
      plays_record : play_from (length s) s i k b
          ≡ unless_refused (state k' r b') (λ t. play_from (length s) s j t.steps t.bank)
      unfolding play_from
      plays_record =
          one_more
          ∙ rw (← e) (ap (λ u. unless_refused u (λ t. play_from (length s) s j t.steps t.bank)) (sym p))

      pub plays_on : r ≡ 0 → play_from (length s) s i k b ≡ play_from (length s) s j k' b'
      plays_on q = plays_record ∙ pass _ (eq-eqb _ _ q) refl

      pub plays_refused : (r ≡ 0 → ⊥) → state k' r b' ≡ play_from (length s) s i k b
      plays_refused q = sym (plays_record ∙ stop _ (ne_eqb _ _ q) refl)

  pub fit_played : (d i k : ℕ) (b : List ℕ) → fit paper b ≡ true → fit paper (play_from d s i k b).bank ≡ true
  unfolding play_from
  fit_played zero i k b f = f
  fit_played (suc d) i k b f = go (find_at s i) (fit_played d)
    where
      Kept : Type 0
      Kept = (i k : ℕ) (b : List ℕ) → fit paper b ≡ true → fit paper (play_from d s i k b).bank ≡ true

      choice : (t : Bool) (u v : State) → fit paper u.bank ≡ true → fit paper v.bank ≡ true
          → fit paper (cond t u v).bank ≡ true
      choice true u v p q = p
      choice false u v p q = q

      go : (f : Found) → Kept
          → fit paper
          (on_found f (state k 0 b) (λ r. state k r b)
          (λ x j. unless_refused (applied k b x) (λ t. play_from d s j t.steps t.bank))).bank
          ≡ true
      go end more = f
      go (bad r) more = f
      go (got kind x y z j) more =
          let t : State = applied k b (ask kind x y z) in
          let g = fit-applied k b (ask kind x y z) f in
          choice (eqb t.refusal 0) (play_from d s j t.steps t.bank) t (more j t.steps t.bank g) g
