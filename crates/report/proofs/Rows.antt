-- Lines and entries one after another: what one more adds at the end.
use mathlib.Core.Path.{◌≡◌, sym, ap, ◌∙◌}
use mathlib.Core.List.{List, [], ◌∷◌, ◌++◌, append_assoc, append-nil}
use Prim.Native.Nat.{ℕ, zero, suc, ◌+◌, ◌<◌}
use native.Mathlib.Nat.{add-zero, zero-add}
use native.Mathlib.Numerals.{add-one}
use native.Mathlib.Omega.{arith}
use lib.ListN.{length, get_or, take}
use lib.Seq.{take-suc}
use Rattle.bank.specs.Layout.{up_from}
use Rattle.report.specs.Text.{decimal}
use Rattle.report.specs.Lines.{blank, entries, lines}

lines_from : (f : ℕ → List ℕ) (k i : ℕ) → lines f (up_from i (suc k)) ≡ lines f (up_from i k) ++ f (i + k)
lines_from f zero i = append-nil (f i) ∙ ap f (sym (add-zero i))
lines_from f (suc k) i =
    let e : suc i + k ≡ i + suc k = omega arith in
    ap (λ l. f i ++ l) (lines_from f k (suc i) ∙ ap (λ j. lines f (up_from (suc i) k) ++ f j) e)
    ∙ sym (append_assoc (f i) (lines f (up_from (suc i) k)) (f (i + suc k)))

pub one_more_line : (f : ℕ → List ℕ) (k : ℕ) → lines f (up_from 0 (k + 1)) ≡ lines f (up_from 0 k) ++ f k
one_more_line f k =
    ap (λ j. lines f (up_from 0 j)) (add-one k)
    ∙ lines_from f k 0
    ∙ ap (λ j. lines f (up_from 0 k) ++ f j) (zero-add k)

entries-append : (ms : List ℕ) (m : ℕ) → entries (ms ++ (m ∷ [])) ≡ entries ms ++ (blank ++ decimal m)
entries-append [] m = ap (λ l. 32 ∷ l) (append-nil (decimal m))
entries-append (n ∷ ms) m =
    ap (λ l. 32 ∷ l)
    (ap (λ l. decimal n ++ l) (entries-append ms m) ∙ sym (append_assoc (decimal n) (entries ms) (blank ++ decimal m)))

pub one_more_entry : (ms : List ℕ) (i : ℕ) → i < length ms
    → entries (take (i + 1) ms) ≡ entries (take i ms) ++ (blank ++ decimal (get_or ms i 0))
one_more_entry ms i h =
    let next : take (i + 1) ms ≡ take i ms ++ (get_or ms i 0 ∷ []) = rw add-one (take-suc ms i 0 h) in
    ap entries next ∙ entries-append (take i ms) (get_or ms i 0)
