-- One text printed after another is their joined text; a text that is printed from the start stands in the buffer.
use mathlib.Core.Path.{◌≡◌, sym, ap, ◌∙◌}
use mathlib.Core.List.{List, [], ◌∷◌, ◌++◌}
use Prim.Native.Nat.{ℕ, suc, ◌+◌, ◌<◌, ◌^◌}
use native.Mathlib.Nat.{add-zero}
use native.Mathlib.Omega.{arith}
use lib.ListN.{length, set}
use lib.Seq.{sets}
use Rattle.std.specs.Prelude.{◌-◌, min}
use Rattle.std.specs.List.{fold}
use Rattle.std.proofs.lemmas.List.Sums.{fold-append}
use Rattle.report.specs.declared.text.Printer.{Printer}
use Rattle.report.specs.Text.{Page, put, page, Prints}

pub then : {p q r : Printer} {t u v : List ℕ} → Prints p t q → Prints q u r → v ≡ t ++ u → Prints p v r
then {p = p} {t = t} {u = u} a b e =
    record {
      same = b.same ∙ a.same;
      leaves =
          b.leaves
          ∙ ap (λ g. fold put g u) a.leaves
          ∙ sym (fold-append put (page p) t u)
          ∙ ap (fold put (page p)) (sym e);
    }

abbrev at : List ℕ → ℕ → Page
at out k = record { bytes = out; place = k }

-- a text whose end a usize counts
pub prints_whole : (t out : List ℕ) (k : ℕ) → k + length t < 2 ^ 64
    → fold put (at out k) t ≡ at (sets out k t) (k + length t)
prints_whole [] out k h = ap (at out) (sym (add-zero k))
prints_whole (b ∷ t) out k h =
    let next : min (k + 1) (2 ^ 64 - 1) ≡ suc k = omega arith in
    let end : suc k + length t ≡ k + suc (length t) = omega arith in
    ap (λ i. fold put (at (set out k b) i) t) next
    ∙ prints_whole t (set out k b) (suc k) (omega arith)
    ∙ ap (at (sets (set out k b) (suc k) t)) end
