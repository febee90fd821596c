-- The bench: from the bytes of a file to the bytes that it prints. It stops at the first refusal.
use Rattle.std.specs.Prelude.{ℕ, zero, suc, ◌+◌, ◌≡◌, cond, List, ◌++◌, eqb, length, replicate}
use Rattle.std.proofs.lemmas.List.Edits.{sets}
use Rattle.bank.specs.Layout.{paper, size}
use Rattle.bank.specs.Opening.{Answer, open_of}
use Rattle.refusals.specs.Step.{Asked, ask}
use Rattle.group.specs.Promises.{step_of}
use Rattle.settler.specs.Settling.{Ending, settle_of}
use Rattle.file.specs.Records.{Found, end, bad, got, word_at, settle_kind, find_at, begun}
use Rattle.report.specs.Lines.{bank_lines, end_line}

-- the steps applied so far, the refusal or 0, and the bank
pub record State : Type 0 where
  pub steps : ℕ
  pub refusal : ℕ
  pub bank : List ℕ

abbrev pub state : ℕ → ℕ → List ℕ → State
state k r b = record { steps = k; refusal = r; bank = b }

-- after k steps: the settler's steps and what it left; one step more where the step is accepted
abbrev pub after_settle : ℕ → Ending → State
after_settle k e = state (k + e.steps) e.refusal e.bank

abbrev pub after_step : ℕ → Answer → State
after_step k a = state (k + cond (eqb a.refusal 0) 1 0) a.refusal a.bank

-- one record: a settle, or a step of the four numbers
unfoldable pub applied : ℕ → List ℕ → Asked → State
applied k b x =
    cond (eqb x.kind settle_kind) (after_settle k (settle_of paper b x.a)) (after_step k (step_of paper b x))

-- by what stands there
abbrev pub on_found : {A : Type 0} → Found → A → (ℕ → A) → (Asked → ℕ → A) → A
on_found end a f g = a
on_found (bad r) a f g = f r
on_found (got kind x y z j) a f g = g (ask kind x y z) j

-- the bench stops at the first refusal
abbrev pub unless_refused : State → (State → State) → State
unless_refused t f = cond (eqb t.refusal 0) (f t) t

-- the records of a file from place i on; d bounds how many are read, and the file's length is enough
unfoldable pub play_from : ℕ → List ℕ → ℕ → ℕ → List ℕ → State
play_from zero s i k b = state k 0 b
play_from (suc d) s i k b =
    on_found (find_at s i) (state k 0 b) (λ r. state k r b)
    (λ x j. unless_refused (applied k b x) (λ t. play_from d s j t.steps t.bank))

-- the bank of the bench before its open: 0 everywhere
abbrev pub blank_bank : List ℕ
blank_bank = replicate (size paper) 0

-- the whole of what is printed once the group is open
abbrev pub told : State → List ℕ
told t = bank_lines t.bank ++ end_line t.steps t.refusal

-- a file that is not begun by a whole open, or whose open is refused, prints the last line alone
unfoldable pub bench_of : List ℕ → List ℕ
bench_of s =
    cond (begun s)
    (cond (eqb (open_of paper blank_bank (word_at s 4) (word_at s 6)).refusal 0)
    (told (play_from (length s) s 8 0 (open_of paper blank_bank (word_at s 4) (word_at s 6)).bank))
    (end_line 0 (open_of paper blank_bank (word_at s 4) (word_at s 6)).refusal))
    (end_line 0 13)

-- the text in a lent buffer, as far as it reaches; the rest of the buffer stays, and the text's length is answered
abbrev pub BenchPromise : List ℕ → List ℕ → ℕ → List ℕ → Type 0
BenchPromise s out n out' = (n ≡ length (bench_of s)) × (out' ≡ sets out 0 (bench_of s))
