-- Runs: steps taken one after another, each allowed where it is taken, until none is left.
use Rattle.std.specs.Prelude.{ℕ, ◌+◌, ◌-◌, ◌*◌, ◌≡◌, Bool, true, false, cond, List, [], ◌∷◌}
use Rattle.refusals.specs.Step.{Step, broadcast, send, receive, deliver, crash, detect, lose}

-- a list of steps leads from a state to a state: `allows` says what a state allows, `act` what a step makes of it
pub data Run {S E : Type 0} (allows : S → E → Type 0) (act : S → E → S) : S → List E → S → Type 0 where
  done : {s : S} → Run allows act s [] s
  next : {s t : S} {e : E} {es : List E} → allows s e → Run allows act (act s e) es t → Run allows act s (e ∷ es) t

-- no step is left
abbrev pub Ended : {S E : Type 0} → (S → E → Type 0) → S → Type 0
Ended {S} {E} allows s = (e : E) → allows s e → ⊥

-- sends, receipts, deliveries and detects settle a group
abbrev pub settles : Step → Bool
settles (broadcast who stamp value) = false
settles (send from to m) = true
settles (receive i from m) = true
settles (deliver i m) = true
settles (crash who) = false
settles (detect i j) = true
settles (lose from to m) = false

-- of the steps that are allowed, those that settle
abbrev pub Settling : {S : Type 0} → (S → Step → Type 0) → S → Step → Type 0
Settling allows s e = (settles e ≡ true) × allows s e

-- how many steps of a list settle, and the most that settle n controllers with c messages
abbrev pub settlings : List Step → ℕ
settlings [] = 0
settlings (e ∷ es) = cond (settles e) 1 0 + settlings es

unfoldable pub most : ℕ → ℕ → ℕ
most n c = 2 * (n * n) * c + n * c + n * (n - 1)

-- the most from any fit bank, spoilt or not (Spoilt.antt): there a copy may be unsent and in flight, two steps and one,
-- and two more where its sender does not hold the message: once it does, it must send it again
unfoldable pub most_of_any : ℕ → ℕ → ℕ
most_of_any n c = 5 * (n * n) * c + n * c + n * (n - 1)
