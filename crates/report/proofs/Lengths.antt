-- How long the report is at the most.
use mathlib.Core.Path.{◌≡◌, refl}
use mathlib.Core.Bool.{Bool, true, false, cond}
use mathlib.Core.List.{List, [], ◌∷◌, ◌++◌}
use Prim.Native.Nat.{ℕ, zero, suc, ◌*◌, ◌≤◌}
use native.Mathlib.Omega.{arith}
use lib.Dec.{eqb}
use lib.ListN.{length, drop, length-append, length-take}
use borrow.Author.Tests.{eqb-true}
use Rattle.sets.specs.Set.{has}
use Rattle.bank.specs.Place.{N, up, count, log_length, log}
use Rattle.bank.specs.Layout.{paper, address, words, up_from}
use Rattle.bank.specs.Fit.{Fit}
use Rattle.lists.specs.Logs.{log_refusal, used_length, log_of}
use Rattle.lists.proofs.Asking.{log-asked}
use Rattle.report.specs.Text.{decimal}
use Rattle.report.specs.Lines.{entries, lines, group_line, message_line, up_or_down, controller_line}
use Rattle.report.specs.Lines.{bank_lines, end_line}
use Rattle.report.proofs.Decimals.{length-decimal}

length-entries : (ms : List ℕ) → length (entries ms) ≤ 11 * length ms
length-entries [] = omega arith
length-entries (m ∷ ms) =
    omega (arith, length-append (decimal m) (entries ms), length-decimal m, length-entries ms)

length-lines : (f : ℕ → List ℕ) (w k i : ℕ) → ((j : ℕ) → length (f j) ≤ w) → length (lines f (up_from i k)) ≤ w * k
length-lines f w zero i h = omega arith
length-lines f w (suc k) i h =
    grind (arith, length-append (f i) (lines f (up_from (suc i) k)), h i, length-lines f w k (suc i) h)

-- the used part of a log is no longer than there are messages
short_log : (b : List ℕ) (who : ℕ) → length (log_of paper b who) ≤ 32
short_log b who =
    omega (
      arith,
      length-take (used_length paper b who) (drop (address paper (log who 0)) b),
      short (eqb (log_refusal paper b who) 0) refl,
    )
  where
    short : (t : Bool) → eqb (log_refusal paper b who) 0 ≡ t → cond t (words paper b (log_length who)) 0 ≤ 32
    short true e = let a = log-asked paper b who (eqb-true _ _ e) in omega (arith, a.short, a.sound.given)
    short false e = omega arith

pub length_end_line : (k r : ℕ) → length (end_line k r) ≤ 26
length_end_line k r = simp length-append (omega (arith, length-decimal k, length-decimal r))

module _ (b : List ℕ) where
  length_group_line : length (group_line b) ≤ 28
  length_group_line = simp length-append (omega (arith, length-decimal))

  length_message_line : (m : ℕ) → length (message_line b m) ≤ 87
  length_message_line m = simp length-append (omega (arith, length-decimal))

  length_up_or_down : (t : Bool) → length (up_or_down t) ≤ 9
  length_up_or_down true = omega arith
  length_up_or_down false = omega arith

  length_controller_line : (i : ℕ) → length (controller_line b i) ≤ 376
  length_controller_line i =
      let state = length_up_or_down (has (words paper b up) i) in
      let numbers = length-entries (log_of paper b i) in
      simp length-append (omega (arith, length-decimal, state, numbers, short_log b i))

  pub length-bank_lines : Fit paper b → length (bank_lines b) ≤ 8828
  unfolding bank_lines
  length-bank_lines f =
      let messages : List ℕ = lines (message_line b) (up_from 0 (words paper b count)) in
      let controllers : List ℕ = lines (controller_line b) (up_from 0 (words paper b N)) in
      omega (
        arith,
        length-append (group_line b) (messages ++ controllers),
        length-append messages controllers,
        length_group_line,
        length-lines (message_line b) 87 (words paper b count) 0 length_message_line,
        length-lines (controller_line b) 376 (words paper b N) 0 length_controller_line,
      )
