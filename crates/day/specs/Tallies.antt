-- The tally of a day over a log: how many of its entries are the day's, and the sum of their values.
use Rattle.std.specs.Prelude.{ℕ, ◌+◌, min, ◌≡◌, Bool, true, cond, ◌&&◌, List, [], ◌∷◌, eqb, leb}
use Rattle.bank.specs.Place.{Words, message, stamp, value}
use Rattle.bank.specs.Layout.{Layout, words}
use Rattle.bank.specs.Fit.{fit}
use Rattle.bank.specs.Rules.{◌else◌, first_broken}
use Rattle.refusals.specs.State.{is_controller, is_message}
use Rattle.lists.specs.Logs.{log_of}
use Rattle.day.specs.Days.{day_of, last_day}
use Rattle.day.specs.declared.entries.Tally.{Tally}

abbrev pub tallied : ℕ → ℕ → Tally
tallied n s = record { count = n; sum = s }

abbrev pub empty : Tally
empty = tallied 0 0

-- one log entry more; the two words count as far as they reach, which no log of a bank comes near
abbrev pub add_entry : ℕ → Tally → ℕ → ℕ → Tally
add_entry day t s v =
    cond (eqb (day_of s) day) (tallied (min (t.count + 1) 65535) (min (t.sum + v) 4294967295)) t

-- the entries of a log one after another, each a message number
unfoldable pub add_all : ℕ → Words → Tally → List ℕ → Tally
add_all day w t [] = t
add_all day w t (m ∷ ms) = add_all day w (add_entry day t (w (message m stamp)) (w (message m value))) ms

-- whether every entry is a given message
unfoldable pub all_given : Words → List ℕ → Bool
all_given w [] = true
all_given w (m ∷ ms) = is_message w m && all_given w ms

abbrev pub tally_refusal : Layout → List ℕ → ℕ → ℕ → ℕ
tally_refusal L b who day =
    first_broken
    (fit L b else 1
    ∷ is_controller (words L b) who else 3
    ∷ leb day last_day else 14
    ∷ all_given (words L b) (log_of L b who) else 1
    ∷ [])

-- the refusal, and the tally, which is empty where the question is refused
pub record DayAnswer : Type 0 where
  pub refusal : ℕ
  pub tally : Tally

abbrev pub day_answer : ℕ → Tally → DayAnswer
day_answer r t = record { refusal = r; tally = t }

unfoldable pub tally_of : Layout → List ℕ → ℕ → ℕ → DayAnswer
tally_of L b who day =
    day_answer (tally_refusal L b who day)
    (cond (eqb (tally_refusal L b who day) 0) (add_all day (words L b) empty (log_of L b who)) empty)

abbrev pub TallyPromise : Layout → List ℕ → ℕ → ℕ → ℕ → ℕ → ℕ → Type 0
TallyPromise L b who day r n s = day_answer r (tallied n s) ≡ tally_of L b who day
