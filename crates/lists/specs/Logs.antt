-- Questions about a log: how long it is, and its used part.
use Rattle.std.specs.Prelude.{ℕ, ◌≡◌, cond, List, [], ◌∷◌, eqb, take, drop, Result, Ok, Err}
use Rattle.numbers.specs.declared.Refusal.{Refusal}
use Rattle.bank.specs.Place.{log_length, log}
use Rattle.bank.specs.Layout.{Layout, address, words}
use Rattle.bank.specs.Fit.{fit}
use Rattle.bank.specs.Rules.{◌else◌, first_broken}
use Rattle.refusals.specs.State.{is_controller}

abbrev pub log_refusal : Layout → List ℕ → ℕ → ℕ
log_refusal L b who = first_broken (fit L b else 1 ∷ is_controller (words L b) who else 3 ∷ [])

abbrev pub used_length : Layout → List ℕ → ℕ → ℕ
used_length L b who = cond (eqb (log_refusal L b who) 0) (words L b (log_length who)) 0

-- the used part: empty where the question is refused
abbrev pub log_of : Layout → List ℕ → ℕ → List ℕ
log_of L b who = take (used_length L b who) (drop (address L (log who 0)) b)

-- the length that is answered: 0 where the question is refused
abbrev pub length_answered : Result ℕ Refusal → ℕ
length_answered (Ok n) = n
length_answered (Err r) = 0

abbrev pub LengthPromise : Layout → List ℕ → ℕ → ℕ → ℕ → Type 0
LengthPromise L b who r n = (r ≡ log_refusal L b who) × (n ≡ used_length L b who)

abbrev pub LogPromise : Layout → List ℕ → ℕ → List ℕ → Type 0
LogPromise L b who part = part ≡ log_of L b who
