-- A question about a day: which of its tests decides, and the tally from one entry of the log on.
use Prim.Native.Nat.{ℕ, ◌+◌, ◌≤◌, ◌<◌}
use mathlib.Core.Path.{◌≡◌, refl, sym, ap, ◌∙◌}
use mathlib.Core.Bool.{Bool, true, false, cond}
use mathlib.Core.List.{List, [], ◌∷◌, ◌++◌}
use native.Mathlib.Omega.{arith}
use native.Mathlib.Numerals.{add-one}
use lib.Dec.{eqb, leb}
use lib.ListN.{length, drop, get_or, drop_of_length-le}
use lib.Seq.{drop-cons}
use borrow.Author.Tests.{ne_eqb, le-leb, lt-leb, lt-ltb, le-ltb}
use Rattle.bank.specs.Place.{Words, count, message, stamp, value}
use Rattle.bank.specs.Layout.{Layout, words}
use Rattle.bank.specs.Fit.{fit}
use Rattle.bank.specs.Rules.{Rule, ◌else◌, first_broken}
use Rattle.refusals.specs.State.{is_controller}
use Rattle.lists.specs.Logs.{log_refusal, log_of}
use Rattle.bank.proofs.Rules.{pass, stop, first_decides, rest_decides, all_hold, none_broken}
use Rattle.day.specs.Days.{last_day}
use Rattle.day.specs.Tallies.{DayAnswer, day_answer, empty, add_entry, add_all, all_given}
use Rattle.day.specs.Tallies.{tally_refusal, tally_of, TallyPromise}
use Rattle.day.specs.declared.entries.Tally.{Tally}

-- the answer where the tests before the log passed: from a tally on, over the entries that are left
abbrev pub tally_from : ℕ → Words → Tally → List ℕ → DayAnswer
tally_from day w t ms = cond (all_given w ms) (day_answer 0 (add_all day w t ms)) (day_answer 1 empty)

-- a tally under the number that its question gets
abbrev under : ℕ → Tally → DayAnswer
under r t = day_answer r (cond (eqb r 0) t empty)

under_last : (given : Bool) (t : Tally) → under (cond given 0 1) t ≡ cond given (day_answer 0 t) (day_answer 1 empty)
under_last true t = refl
under_last false t = refl

module _ (L : Layout) (b : List ℕ) (who day : ℕ) where
  under_refusal : (r : ℕ) → tally_refusal L b who day ≡ r
      → tally_of L b who day ≡ under r (add_all day (words L b) empty (log_of L b who))
  unfolding tally_of
  under_refusal r e = ap (λ x. under x (add_all day (words L b) empty (log_of L b who))) e

  -- a refused tally is empty
  pub refused_empty : (r : ℕ) → tally_refusal L b who day ≡ r → (r ≡ 0 → ⊥) → tally_of L b who day ≡ day_answer r empty
  refused_empty r e z = under_refusal r e ∙ ap (day_answer r) (stop _ (ne_eqb r 0 z) refl)

  -- the tests in two parts: those of the log's length, and the day's own
  abbrev of_log : List Rule
  of_log = fit L b else 1 ∷ is_controller (words L b) who else 3 ∷ []

  abbrev of_day : List Rule
  of_day = leb day last_day else 14 ∷ all_given (words L b) (log_of L b who) else 1 ∷ []

  pub tally_unasked : (r : ℕ) → log_refusal L b who ≡ r → (r ≡ 0 → ⊥) → tally_of L b who day ≡ day_answer r empty
  tally_unasked r e z = refused_empty r (first_decides of_log of_day (λ q. z (sym e ∙ q)) ∙ e) z

  day_decides : log_refusal L b who ≡ 0 → tally_refusal L b who day ≡ first_broken of_day
  day_decides e = rest_decides of_log of_day (tt, (tt, tt)) e

  pub tally_late : log_refusal L b who ≡ 0 → last_day < day → tally_of L b who day ≡ day_answer 14 empty
  tally_late e h = refused_empty 14 (day_decides e ∙ stop _ (lt-leb day last_day h) refl) (λ q. omega arith)

  pub tally-asked : log_refusal L b who ≡ 0 → day ≤ last_day
      → tally_of L b who day ≡ tally_from day (words L b) empty (log_of L b who)
  tally-asked e h =
      under_refusal _ (day_decides e ∙ pass 14 (le-leb day last_day h) refl)
      ∙ under_last (all_given (words L b) (log_of L b who)) _

  -- a tally that is not refused is the whole log's, and its question of the log is not refused either
  pub tally-whole : tally_refusal L b who day ≡ 0
      → tally_of L b who day ≡ day_answer 0 (add_all day (words L b) empty (log_of L b who))
  tally-whole e = under_refusal 0 e

  -- what a tally that is not refused knows
  pub record Counted : Type 0 where
    pub sound : fit L b ≡ true
    pub there : is_controller (words L b) who ≡ true
    pub early : leb day last_day ≡ true
    pub given : all_given (words L b) (log_of L b who) ≡ true

  pub tests_hold : tally_refusal L b who day ≡ 0 → Counted
  tests_hold e =
      let (sound, (there, (early, (given, _)))) = all_hold (of_log ++ of_day) (tt, (tt, (tt, (tt, tt)))) e in
      record { sound = sound; there = there; early = early; given = given }

  pub log-free : tally_refusal L b who day ≡ 0 → log_refusal L b who ≡ 0
  log-free e = let h = tests_hold e in none_broken of_log (h.sound, (h.there, tt))

-- the same of the call's promise
pub refused_nothing : (L : Layout) (b : List ℕ) (who day : ℕ) {r n s : ℕ} → TallyPromise L b who day r n s → (r ≡ 0 → ⊥)
    → (n ≡ 0) × (s ≡ 0)
unfolding tally_of
refused_nothing L b who day e z =
    let q = e ∙ refused_empty L b who day _ (sym (ap (λ a. a.refusal) e)) z in
    (ap (λ a. a.tally.count) q, ap (λ a. a.tally.sum) q)

-- where one day's tally is not refused, no day of the season's is
pub every_day : (L : Layout) (b : List ℕ) (who day : ℕ) → tally_refusal L b who day ≡ 0 → (d : ℕ) → d ≤ last_day
    → tally_refusal L b who d ≡ 0
every_day L b who day e d h =
    day_decides L b who d (log-free L b who day e)
    ∙ none_broken (of_day L b who d) (le-leb d last_day h, ((tests_hold L b who day e).given, tt))

-- ---- one entry more

module _ (day : ℕ) (w : Words) (t : Tally) (ms : List ℕ) (k : ℕ) where
  abbrev entry : ℕ
  entry = get_or ms k 0

  pub from_given : k < length ms → entry < w count
      → tally_from day w t (drop k ms)
      ≡ tally_from day w (add_entry day t (w (message entry stamp)) (w (message entry value))) (drop (k + 1) ms)
  unfolding all_given add_all
  from_given h g = let e = lt-ltb entry (w count) g in rw (add-one k, drop-cons ms k 0 h, e)

  pub from_stranger : k < length ms → w count ≤ entry → tally_from day w t (drop k ms) ≡ day_answer 1 empty
  unfolding all_given
  from_stranger h g = let e = le-ltb entry (w count) g in rw (drop-cons ms k 0, e)

  pub from_end : length ms ≤ k → tally_from day w t (drop k ms) ≡ day_answer 0 t
  unfolding all_given add_all
  from_end h = rw (drop_of_length-le ms h)

-- what tally_day goes by
pub ruleset by_entry = (tally_unasked, tally_late, tally-asked, from_given, from_stranger, from_end)
