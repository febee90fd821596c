-- The report of a file: which of the three it is, and that a bank which is printed is fit, so that the report is short.
use mathlib.Core.Path.{◌≡◌, refl, sym, ap, subst, ◌∙◌}
use mathlib.Core.Bool.{Bool, true, false, cond}
use mathlib.Core.List.{List, [], ◌∷◌, ◌++◌}
use Prim.Native.Nat.{ℕ, ◌≤◌}
use native.Mathlib.Nat.{zero-add}
use native.Mathlib.Omega.{arith}
use lib.Dec.{eqb}
use lib.ListN.{length, length-append}
use borrow.Author.Tests.{eq-eqb, ne_eqb, eqb-true}
use Rattle.std.specs.List.{fold}
use Rattle.bank.specs.Layout.{Layout, paper, size}
use Rattle.bank.specs.Fit.{Fit, fit, is_size, is_mode}
use Rattle.bank.specs.Opening.{Answer, answer, opened, open_of}
use Rattle.bank.specs.Rules.{Rule, ◌else◌, Holds}
use Rattle.bank.proofs.Rules.{pass, stop, all_hold}
use Rattle.bank.proofs.Fitness.{fit_facts, facts_fit, fit_opened}
use Rattle.file.specs.Records.{word_at, begun}
use Rattle.report.specs.declared.text.Printer.{Printer}
use Rattle.report.specs.Text.{page, put, Prints}
use Rattle.report.specs.Lines.{bank_lines, end_line}
use Rattle.report.specs.Bench.{State, state, play_from, blank_bank, told, bench_of, BenchPromise}
use Rattle.report.proofs.Printing.{prints_whole}
use Rattle.report.proofs.Lengths.{length-bank_lines, length_end_line}
use Rattle.report.proofs.Playing.{fit_played}

-- an opening that nothing refuses makes a fit bank
fit_open : (L : Layout) (b : List ℕ) (n k : ℕ) → (open_of L b n k).refusal ≡ 0 → fit L (open_of L b n k).bank ≡ true
unfolding open_of
fit_open L b n k e =
    subst (λ l. fit L l ≡ true) (sym (pass b (eq-eqb _ 0 e) refl)) (allowed (all_hold rules (tt, (tt, (tt, tt))) e))
  where
    rules : List Rule
    rules = eqb (length b) (size L) else 1 ∷ is_size L n else 11 ∷ is_mode k else 12 ∷ []

    allowed : Holds rules → fit L (opened L n k) ≡ true
    allowed (whole, (sized, (known, _))) = facts_fit L (opened L n k) (fit_opened L n k sized known)

module _ (s : List ℕ) where
  pub reports_unbegun : begun s ≡ false → end_line 0 13 ≡ bench_of s
  unfolding bench_of
  reports_unbegun e = sym (stop _ e refl)

  module _ (e : begun s ≡ true) {r : ℕ} {b : List ℕ}
      (p : answer r b ≡ open_of paper blank_bank (word_at s 4) (word_at s 6)) where
    number : r ≡ (open_of paper blank_bank (word_at s 4) (word_at s 6)).refusal
    number = ap (λ a. a.refusal) p

    pub reports_refused : (r ≡ 0 → ⊥) → end_line 0 r ≡ bench_of s
    unfolding bench_of
    reports_refused z = sym (pass _ e (stop _ (ne_eqb _ _ (λ q. z (number ∙ q))) (ap (end_line 0) (sym number))))

    module _ (z : r ≡ 0) {k q : ℕ} {c : List ℕ} (t : state k q c ≡ play_from (length s) s 8 0 b) where
      pub reports_played : bank_lines c ++ end_line k q ≡ bench_of s
      unfolding bench_of
      reports_played =
          sym
          (pass _ e
          (pass _ (eq-eqb _ _ (sym number ∙ z))
          (ap (λ a. told (play_from (length s) s 8 0 a.bank)) (sym p) ∙ ap told (sym t))))

      pub fit_reported : Fit paper c
      fit_reported =
          let before : fit paper b ≡ true =
          ap (λ a. fit paper a.bank) p ∙ fit_open paper blank_bank (word_at s 4) (word_at s 6) (sym number ∙ z)
          in
          fit_facts paper c (ap (λ u. fit paper u.bank) t ∙ fit_played s (length s) 8 0 b before)

  -- each of the three reports is short
  pub short_report : length (bench_of s) ≤ 8854
  unfolding bench_of
  short_report = go (begun s) (eqb opening.refusal 0) refl refl
    where
      opening : Answer
      opening = open_of paper blank_bank (word_at s 4) (word_at s 6)

      played : State
      played = play_from (length s) s 8 0 opening.bank

      go : (t u : Bool) → begun s ≡ t → eqb opening.refusal 0 ≡ u
          → length (cond t (cond u (told played) (end_line 0 opening.refusal)) (end_line 0 13)) ≤ 8854
      go true true e z =
          let accepted : opening.refusal ≡ 0 = eqb-true _ _ z in
          let fits = fit_reported e {r = opening.refusal} {b = opening.bank} refl accepted {c = played.bank} refl in
          omega (
            arith,
            length-append (bank_lines played.bank) (end_line played.steps played.refusal),
            length-bank_lines played.bank fits,
            length_end_line played.steps played.refusal,
          )
      go true false e z = omega (arith, length_end_line 0 opening.refusal)
      go false u e z = omega (arith, length_end_line 0 13)

  -- the report, printed from the start of a buffer
  pub promised : {p q : Printer} (out : List ℕ) → Prints p (bench_of s) q → page p ≡ record { bytes = out; place = 0 }
      → BenchPromise s out q.place q.out.now
  promised out e start =
      let h = short_report in
      let printed = e.leaves ∙ ap (λ g. fold put g (bench_of s)) start in
      let w = printed ∙ prints_whole (bench_of s) out 0 (omega arith) in
      (ap (λ g. g.place) w ∙ zero-add (length (bench_of s)), ap (λ g. g.bytes) w)
