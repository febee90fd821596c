-- Each promise leaves no room: two answers that it allows for the same input are equal.
use Prim.Native.Nat.{ℕ}
use mathlib.Core.Path.{◌≡◌, refl, sym, ap, ◌∙◌}
use mathlib.Core.Bool.{Bool}
use mathlib.Core.List.{List}
use Rattle.std.specs.Prelude.{Option, Some, None, Result, Ok, Err}
use Rattle.numbers.specs.declared.Refusal.{Refusal}
use Rattle.numbers.proofs.OneAnswer.{named, named_number}
use Rattle.file.specs.declared.Record.{Record}
use borrow.Author.Tests.{ne_eqb}
use Rattle.std.specs.Prelude.{cond, eqb}
use Rattle.file.specs.declared.Asks.{Asks}
use Rattle.file.specs.declared.Asks.TheVariants.{Step, Settle}
use Rattle.file.specs.Records.{Found, end, bad, got, settle_kind}
use Rattle.file.specs.Promises.{record_as, read_as, Apart, SettleApart, WordPromise, FindPromise, BegunPromise}

-- no two answers say the same: what an answer says gives it back
abbrev asks : ℕ → ℕ → ℕ → ℕ → Asks
asks kind x y z = cond (eqb kind settle_kind) (Settle x) (Step (record { kind = kind; a = x; b = y; c = z }))

abbrev given : Found → Result (Option Record) Refusal
given end = Ok None
given (bad r) = Err (named r)
given (got kind x y z j) = Ok (Some (record { asks = asks kind x y z; next = j }))

given_record : (a : Asks) (j : ℕ) → Apart a → given (record_as a j) ≡ Ok (Some (record { asks = a; next = j }))
given_record (Step x) j h = rw (ne_eqb x.kind settle_kind h)
given_record (Settle budget) j h = refl

given_read : (a : Result (Option Record) Refusal) → SettleApart a → given (read_as a) ≡ a
given_read (Ok None) h = refl
given_read (Ok (Some r)) h = given_record r.asks r.next h
given_read (Err r) h = ap Err (named_number r)

pub word_determined : (s : List ℕ) (i : ℕ) {v w : ℕ} → WordPromise s i v → WordPromise s i w → v ≡ w
word_determined s i e f = e ∙ sym f

pub find_determined : (s : List ℕ) (i : ℕ) {a b : Result (Option Record) Refusal} → FindPromise s i a
    → FindPromise s i b → a ≡ b
find_determined s i {a} {b} e f =
    sym (given_read a e.1) ∙ ap given (e.0 ∙ sym f.0) ∙ given_read b f.1

pub begun_determined : (s : List ℕ) {t u : Bool} → BegunPromise s t → BegunPromise s u → t ≡ u
begun_determined s e f = e ∙ sym f
