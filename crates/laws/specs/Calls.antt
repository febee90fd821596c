-- What a program may call once a group is open, which steps its answers tell of, and what it may then rely on, in a
-- bank of either size, and of any layout.
use Rattle.std.specs.Prelude.{ℕ, zero, suc, ◌≡◌, Bool, cond, List, [], ◌∷◌, ◌++◌, eqb, length}
use Rattle.std.proofs.Math.Option.{Option, none, some}
use Rattle.bank.specs.Layout.{Layout, paper}
use Rattle.refusals.specs.Step.{Step, asked, Asked, ask}
use Rattle.bank.specs.Opening.{open_of, OpenPromise}
use Rattle.refusals.specs.Promises.{Allowed}
use Rattle.group.specs.Promises.{after, step_of, StepPromise, taken, TakePromise}
use Rattle.lists.specs.Lists.{run_of, RunPromise}
use Rattle.settler.specs.Settling.{ending, settle_of, SettlePromise}
use Rattle.step_records.specs.Records.{flat, StepsPromise}
use Rattle.laws.specs.Runs.{Run}
use Rattle.laws.specs.Demand.{Reached}
use Rattle.laws.specs.Settler.{chosen, Tells}
use Rattle.laws.specs.Demand3.{Demand3}

-- ---- which steps an answer tells of

abbrev pub asks_for : Option Step → List Step
asks_for none = []
asks_for (some s) = s ∷ []

-- a single step that was asked for, if the answer r says that it was accepted
abbrev pub if_accepted : ℕ → Option Step → List Step
if_accepted r o = cond (eqb r 0) (asks_for o) []

-- the first a steps that a list of words asks for, four words a step
abbrev pub asks_first : ℕ → List ℕ → List Step
asks_first zero steps = []
asks_first (suc a) (kind ∷ x ∷ y ∷ z ∷ rest) = asks_for (asked (ask kind x y z)) ++ asks_first a rest
asks_first (suc a) [] = []
asks_first (suc a) (kind ∷ []) = []
asks_first (suc a) (kind ∷ x ∷ []) = []
asks_first (suc a) (kind ∷ x ∷ y ∷ []) = []

-- ---- the calls that may change a bank, each with its numbers and what it answered

-- an open that is not refused begins another group
pub data Call : Type 0 where
  open_refused : (n mode refusal : ℕ) → (refusal ≡ 0 → ⊥) → Call
  step : (x : Asked) (refusal : ℕ) → Call
  take : (s : Step) (refusal : ℕ) → Call
  run : (steps : List ℕ) (accepted refusal : ℕ) → Call
  run_steps : (steps : List Asked) (accepted refusal : ℕ) → Call
  settle : (budget refusal steps : ℕ) (quiet : Bool) → Call

-- what the call promises of the bank before it and the bank after it
abbrev pub Promised : Layout → List ℕ → Call → List ℕ → Type 0
Promised L b (open_refused n k r z) c = OpenPromise L b n k r c
Promised L b (step x r) c = StepPromise L b x r c
Promised L b (take s r) c = TakePromise L b s r c
Promised L b (run steps a r) c = RunPromise L b steps a r c
Promised L b (run_steps steps a r) c = RunPromise L b (flat steps) a r c
Promised L b (settle d r t q) c = SettlePromise L b d r t q c

-- step records are for the paper's bank alone, where that is what the call promises
abbrev pub RecordsPromised : Type 0
RecordsPromised = (b : List ℕ) (steps : List Asked) (a r : ℕ) (c : List ℕ) → StepsPromise b steps a r c
    → Promised paper b (run_steps steps a r) c

-- the steps that it took, and how many its answer counts; a settling's are the settler's own first so many
abbrev pub steps_of : Layout → List ℕ → Call → List Step
steps_of L b (open_refused n k r z) = []
steps_of L b (step x r) = if_accepted r (asked x)
steps_of L b (take s r) = if_accepted r (some s)
steps_of L b (run steps a r) = asks_first a steps
steps_of L b (run_steps steps a r) = asks_first a (flat steps)
steps_of L b (settle d r t q) = chosen L t b

abbrev pub count_of : Call → ℕ
count_of (open_refused n k r z) = 0
count_of (step x r) = cond (eqb r 0) 1 0
count_of (take s r) = cond (eqb r 0) 1 0
count_of (run steps a r) = a
count_of (run_steps steps a r) = a
count_of (settle d r t q) = t

-- none is left out: whatever is asked of this bank, the answer and the bank that the definitions give are promised
pub record EveryAnswer (L : Layout) (b : List ℕ) : Type 0 where
  pub of_open : (n k : ℕ) (z : (open_of L b n k).refusal ≡ 0 → ⊥)
      → Promised L b (open_refused n k (open_of L b n k).refusal z) (open_of L b n k).bank
  pub of_step : (x : Asked)
      → let a = step_of L b x in Promised L b (step x a.refusal) a.bank
  pub of_take : (s : Step)
      → let a = taken L b s in Promised L b (take s a.refusal) a.bank
  pub of_run : (list : List ℕ)
      → let o = run_of L b list in Promised L b (run list o.accepted o.refusal) o.bank
  pub of_records : (list : List Asked)
      → let o = run_of L b (flat list) in Promised L b (run_steps list o.accepted o.refusal) o.bank
  pub of_settle : (d : ℕ)
      → let e = settle_of L b d in Promised L b (settle d e.refusal e.steps e.quiet) e.bank

-- ---- any calls, one after another

-- an open that answered 0, then calls as they come: the steps taken so far, and what the lent memory holds now
pub data Calls {C : Type 0} (Opened : List ℕ → Type 0) (Promised : List ℕ → C → List ℕ → Type 0)
    (steps_of : List ℕ → C → List Step) : List Step → List ℕ → Type 0 where
  after_open : {b : List ℕ} → Opened b → Calls Opened Promised steps_of [] b
  called : {before : List Step} {b c : List ℕ} (x : C) → Calls Opened Promised steps_of before b → Promised b x c
      → Calls Opened Promised steps_of (before ++ steps_of b x) c

abbrev pub Called : Layout → ℕ → ℕ → List Step → List ℕ → Type 0
Called L n k = Calls (λ c. (b : List ℕ) × OpenPromise L b n k 0 c) (Promised L) (steps_of L)

-- no open is left out: whatever the memory held, one that answers 0 begins such calls
abbrev pub EveryOpen : Type 0
EveryOpen = (L : Layout) (b : List ℕ) (n k : ℕ) → (open_of L b n k).refusal ≡ 0
    → Called L n k [] (open_of L b n k).bank

-- ---- what whoever calls may rely on

-- the steps that the answers tell of were accepted, in that order, and led to this bank: demand 3 is had of it
pub record Relies (L : Layout) (n k : ℕ) (before : List Step) (b : List ℕ) : Type 0 where
  pub reached : Reached L n k before b
  pub demand : Demand3 L n k before b

-- whatever was called and answered, and whatever is called next: the next call leads from this bank to its own by its
-- steps, as many as its answer counts, and a settling's answer tells what is left and how every order ends
pub record CallersRely (L : Layout) (n k : ℕ) (before : List Step) (b : List ℕ) : Type 0 where
  pub relies : Relies L n k before b
  pub every-answer : EveryAnswer L b
  pub leads : (x : Call) (c : List ℕ) → Promised L b x c → Run (Allowed L) (after L) b (steps_of L b x) c
  pub counts : (x : Call) (c : List ℕ) → Promised L b x c → length (steps_of L b x) ≡ count_of x
  pub settling : (d r t : ℕ) (q : Bool) (c : List ℕ) → SettlePromise L b d r t q c
      → Tells L b d (ending r t q c)

abbrev pub EveryCaller : Type 0
EveryCaller = (L : Layout) (n k : ℕ) (before : List Step) (b : List ℕ) → Called L n k before b
    → CallersRely L n k before b
