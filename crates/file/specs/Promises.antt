-- What the public calls promise, each for all inputs, and what each answer of find_at says.
use Rattle.std.specs.Prelude.{ℕ, ◌≡◌, ◌≢◌, Bool, List, Option, Some, None, Result, Ok, Err}
use Rattle.numbers.specs.declared.Refusal.{Refusal}
use Rattle.numbers.specs.Numbers.{number}
use Rattle.numbers.specs.declared.Asked.{Asked}
use Rattle.file.specs.declared.Record.{Record}
use Rattle.file.specs.declared.Asks.{Asks}
use Rattle.file.specs.declared.Asks.TheVariants.{Step, Settle}
use Rattle.file.specs.Records.{Found, end, bad, got, settle_kind, word_at, find_at, begun}

-- the four numbers of what a record asks for
abbrev pub asked_of : Asks → Asked
asked_of (Step x) = x
asked_of (Settle budget) = record { kind = settle_kind; a = budget; b = 0; c = 0 }

-- a record's kind, numbers and the place after it
abbrev pub record_as : Asks → ℕ → Found
record_as a j = got (asked_of a).kind (asked_of a).a (asked_of a).b (asked_of a).c j

-- each case of the answer: the end; a record; a refusal's number
abbrev pub read_as : Result (Option Record) Refusal → Found
read_as (Ok None) = end
read_as (Ok (Some r)) = record_as r.asks r.next
read_as (Err r) = bad (number r)

abbrev pub WordPromise : List ℕ → ℕ → ℕ → Type 0
WordPromise s i w = w ≡ word_at s i

-- a settle is answered as such, and not as a step of its number
abbrev pub Apart : Asks → Type 0
Apart (Step x) = x.kind ≢ settle_kind
Apart (Settle budget) = Unit {0}

abbrev pub SettleApart : Result (Option Record) Refusal → Type 0
SettleApart (Ok None) = Unit {0}
SettleApart (Ok (Some r)) = Apart r.asks
SettleApart (Err r) = Unit {0}

abbrev pub FindPromise : List ℕ → ℕ → Result (Option Record) Refusal → Type 0
FindPromise s i a = (read_as a ≡ find_at s i) × SettleApart a

abbrev pub BegunPromise : List ℕ → Bool → Type 0
BegunPromise s t = t ≡ begun s
