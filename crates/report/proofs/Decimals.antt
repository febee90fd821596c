-- A number in decimal is std's text of it, and ten digits are enough for any u32.
use mathlib.Core.Bool.{Bool, true, false, cond}
use mathlib.Core.List.{[], ◌∷◌, ◌++◌}
use Prim.Native.Nat.{ℕ, zero, suc, ◌+◌, ◌/◌, ◌%◌, ◌≤◌, ◌<◌, ◌^◌}
use mathlib.Core.Path.{◌≡◌, sym, ap}
use native.Mathlib.Omega.{arith}
use lib.Dec.{ltb}
use lib.ListN.{length, length-append}
use borrow.Author.Tests.{lt-ltb, le-ltb}
use Rattle.std.specs.Fmt
use Rattle.std.proofs.lemmas.Fmt.{AppendsLastDigit, decimal_from_appends, length-decimal-le}
use Rattle.report.specs.Text.{decimal_in, decimal}

appends : AppendsLastDigit decimal_in
unfolding decimal_in
appends =
    record {
      one = λ k n h. let e : n % 10 ≡ n = omega arith in rw (lt-ltb n 10 h) (ap (λ d. (48 + d) ∷ []) e);
      more = λ k n h. rw (le-ltb n 10 h);
    }

pub std_decimal : (x : ℕ) → x < 2 ^ 32 → Fmt.decimal x ≡ decimal x
std_decimal x fits =
    let short = length-decimal-le 10 x (omega arith) (omega arith) (omega arith) in
    sym (decimal_from_appends decimal_in appends 10 x (omega arith) short)

length-decimal_in : (d x : ℕ) → length (decimal_in d x) ≤ d
unfolding decimal_in
length-decimal_in zero x = omega arith
length-decimal_in (suc d) x = go (ltb x 10) (length-decimal_in d (x / 10))
  where
    go : (t : Bool) → length (decimal_in d (x / 10)) ≤ d
        → length (cond t [] (decimal_in d (x / 10)) ++ ((48 + x % 10) ∷ [])) ≤ suc d
    go true h = omega arith
    go false h = omega (arith, length-append (decimal_in d (x / 10)) ((48 + x % 10) ∷ []))

pub length-decimal : (x : ℕ) → length (decimal x) ≤ 10
length-decimal x = length-decimal_in 10 x
