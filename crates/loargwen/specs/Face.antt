-- What the C face promises of bytes: the call on the bank that they stand for. A refusal leaves every byte.
use Rattle.std.specs.Prelude.{ℕ, ◌*◌, ◌≡◌, Bool, cond, List, eqb, length}
use Rattle.bank.specs.Layout.{paper, size}
use Rattle.bank.specs.Opening.{Answer, answer, open_of}
use Rattle.refusals.specs.Step.{Asked}
use Rattle.group.specs.Promises.{step_of}
use Rattle.settler.specs.Settling.{Ending, settle_of}
use Rattle.day.specs.Tallies
use Rattle.loargwen.specs.Bytes.{words_of, bytes_of}

-- 4,488 bytes are a bank; another length is unfit
abbrev pub is_bank : List ℕ → Bool
is_bank bytes = eqb (length bytes) (2 * size paper)

-- the bytes afterwards: those of the new bank, or the old ones where the call is refused
abbrev pub bytes_after : List ℕ → ℕ → List ℕ → List ℕ
bytes_after bytes r bank = cond (eqb r 0) (bytes_of bank) bytes

abbrev pub on_bytes : List ℕ → Answer → Answer
on_bytes bytes a = cond (is_bank bytes) (answer a.refusal (bytes_after bytes a.refusal a.bank)) (answer 1 bytes)

abbrev pub OpenBytes : List ℕ → ℕ → ℕ → ℕ → List ℕ → Type 0
OpenBytes bytes n k r bytes' = answer r bytes' ≡ on_bytes bytes (open_of paper (words_of bytes) n k)

abbrev pub StepBytes : List ℕ → Asked → ℕ → List ℕ → Type 0
StepBytes bytes x r bytes' = answer r bytes' ≡ on_bytes bytes (step_of paper (words_of bytes) x)

-- quiet crosses as 1 or 0
abbrev pub flag : Bool → ℕ
flag t = cond t 1 0

pub record SettledBytes : Type 0 where
  pub refusal : ℕ
  pub steps : ℕ
  pub quiet : ℕ
  pub bytes : List ℕ

abbrev pub settled_bytes : ℕ → ℕ → ℕ → List ℕ → SettledBytes
settled_bytes r k q b = record { refusal = r; steps = k; quiet = q; bytes = b }

abbrev pub settle_on_bytes : List ℕ → Ending → SettledBytes
settle_on_bytes bytes e =
    cond (is_bank bytes)
    (settled_bytes e.refusal e.steps (flag e.quiet) (bytes_after bytes e.refusal e.bank))
    (settled_bytes 1 0 0 bytes)

abbrev pub SettleBytes : List ℕ → ℕ → ℕ → ℕ → ℕ → List ℕ → Type 0
SettleBytes bytes budget r k q bytes' =
    settled_bytes r k q bytes' ≡ settle_on_bytes bytes (settle_of paper (words_of bytes) budget)

abbrev pub TallyBytes : List ℕ → ℕ → ℕ → ℕ → ℕ → ℕ → Type 0
TallyBytes bytes who day r n s =
    Tallies.day_answer r (Tallies.tallied n s)
    ≡ cond (is_bank bytes) (Tallies.tally_of paper (words_of bytes) who day) (Tallies.day_answer 1 Tallies.empty)
