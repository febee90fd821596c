-- A number stands for one refusal, so that two answers that give one number are the same answer.
use mathlib.Core.Path.{◌≡◌, refl, sym, ap, ◌∙◌}
use Prim.Native.Nat.{ℕ}
use native.Mathlib.Omega.{arith}
use mathlib.Core.Bool.{Bool, true, false, true≢false, false≢true}
use Rattle.std.specs.Prelude.{Result, Ok, Err, is_ok, cond, eqb}
use Rattle.numbers.specs.declared.Refusal.{Refusal}
use Rattle.numbers.specs.declared.Refusal.TheVariants.{Unfit, NoStep, NoController, NoMessage, NoDetection, ActorDown}
use Rattle.numbers.specs.declared.Refusal.TheVariants.{MessagesFull, NoCopy, NotYet, Already, BadSize, BadMode}
use Rattle.numbers.specs.declared.Refusal.TheVariants.{BadRecord, BadDay}
use Rattle.numbers.specs.Numbers.{number, given, unless}

-- the refusal of a number
abbrev pub named : ℕ → Refusal
named n =
    cond (eqb n 1) Unfit
    (cond (eqb n 2) NoStep
    (cond (eqb n 3) NoController
    (cond (eqb n 4) NoMessage
    (cond (eqb n 5) NoDetection
    (cond (eqb n 6) ActorDown
    (cond (eqb n 7) MessagesFull
    (cond (eqb n 8) NoCopy
    (cond (eqb n 9) NotYet
    (cond (eqb n 10) Already
    (cond (eqb n 11) BadSize (cond (eqb n 12) BadMode (cond (eqb n 13) BadRecord BadDay))))))))))))

pub named_number : (r : Refusal) → named (number r) ≡ r
named_number Unfit = refl
named_number NoStep = refl
named_number NoController = refl
named_number NoMessage = refl
named_number NoDetection = refl
named_number ActorDown = refl
named_number MessagesFull = refl
named_number NoCopy = refl
named_number NotYet = refl
named_number Already = refl
named_number BadSize = refl
named_number BadMode = refl
named_number BadRecord = refl
named_number BadDay = refl

-- no refusal has the number 0, which is given where nothing is refused
pub refused_above : (r : Refusal) → number r ≡ 0 → ⊥
refused_above Unfit e = omega arith
refused_above NoStep e = omega arith
refused_above NoController e = omega arith
refused_above NoMessage e = omega arith
refused_above NoDetection e = omega arith
refused_above ActorDown e = omega arith
refused_above MessagesFull e = omega arith
refused_above NoCopy e = omega arith
refused_above NotYet e = omega arith
refused_above Already e = omega arith
refused_above BadSize e = omega arith
refused_above BadMode e = omega arith
refused_above BadRecord e = omega arith
refused_above BadDay e = omega arith

pub one_refusal : (r s : Refusal) → number r ≡ number s → r ≡ s
one_refusal r s e = sym (named_number r) ∙ ap named e ∙ named_number s

-- two answers that give one number are equal where both, being accepted, carry the same
pub one_result_by : {A : Type 0} (r s : Result A Refusal) → given r ≡ given s
    → ((x y : A) → r ≡ Ok x → s ≡ Ok y → x ≡ y) → r ≡ s
one_result_by (Ok x) (Ok y) e f = ap Ok (f x y refl refl)
one_result_by (Ok x) (Err b) e f = absurd (refused_above b (sym e))
one_result_by (Err a) (Ok y) e f = absurd (refused_above a e)
one_result_by (Err a) (Err b) e f = ap Err (one_refusal a b e)

pub one_result : (r s : Result (Unit {0}) Refusal) → given r ≡ given s → r ≡ s
one_result r s e = one_result_by r s e (λ x y _ _. refl)

-- an answer whose number is 0 is accepted
pub ok_given : {A : Type 0} (r : Result A Refusal) → given r ≡ 0 → is_ok r ≡ true
ok_given (Ok x) e = refl
ok_given (Err a) e = absurd (refused_above a e)

-- what is not refused unless a test holds passed the test
pub unless_passed : (r : Refusal) (t : Bool) (u : Unit {0}) → unless r t ≡ Ok u → t ≡ true
unless_passed r true u e = refl
unless_passed r false u e = cc
