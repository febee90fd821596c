-- The same for a C program: the calls of include/loargwen.h that may change a bank's bytes, and what it may rely on.
use Rattle.std.specs.Prelude.{ℕ, ◌≡◌, cond, List, [], eqb, length}
use Rattle.bank.specs.Layout.{paper}
use Rattle.refusals.specs.Step.{Step, asked, Asked}
use Rattle.bank.specs.Opening.{open_of}
use Rattle.refusals.specs.Promises.{Allowed}
use Rattle.group.specs.Promises.{after, step_of}
use Rattle.settler.specs.Settling.{ending, settle_of}
use Rattle.loargwen.specs.Bytes.{words_of, bytes_of}
use Rattle.loargwen.specs.Face.{on_bytes, settle_on_bytes, OpenBytes, StepBytes, SettleBytes}
use Rattle.laws.specs.Runs.{Run}
use Rattle.laws.specs.Settler.{chosen, Tells}
use Rattle.laws.specs.Calls.{if_accepted, Calls, Relies}

-- each call with its numbers and what it answered; quiet is 1 or 0
pub data CCall : Type 0 where
  open_refused : (n mode refusal : ℕ) → (refusal ≡ 0 → ⊥) → CCall
  step : (x : Asked) (refusal : ℕ) → CCall
  settle : (budget refusal steps quiet : ℕ) → CCall

abbrev pub PromisedToC : List ℕ → CCall → List ℕ → Type 0
PromisedToC bytes (open_refused n k r z) new = OpenBytes bytes n k r new
PromisedToC bytes (step x r) new = StepBytes bytes x r new
PromisedToC bytes (settle d r t q) new = SettleBytes bytes d r t q new

abbrev pub steps_of_c : List ℕ → CCall → List Step
steps_of_c bytes (open_refused n k r z) = []
steps_of_c bytes (step x r) = if_accepted r (asked x)
steps_of_c bytes (settle d r t q) = chosen paper t (words_of bytes)

abbrev pub count_of_c : CCall → ℕ
count_of_c (open_refused n k r z) = 0
count_of_c (step x r) = cond (eqb r 0) 1 0
count_of_c (settle d r t q) = t

-- none is left out
pub record EveryAnswerToC (bytes : List ℕ) : Type 0 where
  pub of_open : (n k : ℕ)
      → let a = on_bytes bytes (open_of paper (words_of bytes) n k) in
      (z : a.refusal ≡ 0 → ⊥) → PromisedToC bytes (open_refused n k a.refusal z) a.bank
  pub of_step : (x : Asked)
      → let a = on_bytes bytes (step_of paper (words_of bytes) x) in
      PromisedToC bytes (step x a.refusal) a.bank
  pub of_settle : (d : ℕ)
      → let e = settle_on_bytes bytes (settle_of paper (words_of bytes) d) in
      PromisedToC bytes (settle d e.refusal e.steps e.quiet) e.bytes

-- a loargwen_open that answered 0, then calls as they come
abbrev pub CalledFromC : ℕ → ℕ → List Step → List ℕ → Type 0
CalledFromC n k = Calls (λ new. (bytes : List ℕ) × OpenBytes bytes n k 0 new) PromisedToC steps_of_c

-- no loargwen_open is left out
abbrev pub EveryOpenFromC : Type 0
EveryOpenFromC = (bytes : List ℕ) (n k : ℕ)
    → let a = on_bytes bytes (open_of paper (words_of bytes) n k) in
    a.refusal ≡ 0 → CalledFromC n k [] a.bank

-- the bytes are a bank's; it was reached by the steps that the answers tell of, and demand 3 is had of it; whatever is
-- called next leads from it by its steps, as many as its answer counts, and a settling's tells what is left
pub record CCallersRely (n k : ℕ) (before : List Step) (bytes : List ℕ) : Type 0 where
  pub whole : bytes ≡ bytes_of (words_of bytes)
  pub relies : Relies paper n k before (words_of bytes)
  pub every-answer : EveryAnswerToC bytes
  pub leads : (x : CCall) (new : List ℕ) → PromisedToC bytes x new
      → Run (Allowed paper) (after paper) (words_of bytes) (steps_of_c bytes x) (words_of new)
  pub counts : (x : CCall) (new : List ℕ) → PromisedToC bytes x new → length (steps_of_c bytes x) ≡ count_of_c x
  pub settling : (d r t q : ℕ) (new : List ℕ) → SettleBytes bytes d r t q new
      → Tells paper (words_of bytes) d (ending r t (eqb q 1) (words_of new))

abbrev pub EveryCCaller : Type 0
EveryCCaller = (n k : ℕ) (before : List Step) (bytes : List ℕ) → CalledFromC n k before bytes
    → CCallersRely n k before bytes
