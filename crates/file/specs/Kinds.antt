-- The kinds of record in the code, by their numbers.
use Rattle.std.specs.Prelude.{ℕ, ◌≡◌, Result, Ok, Err, cond, eqb}
use Rattle.numbers.specs.declared.Kind.{Kind}
use Rattle.numbers.specs.declared.Refusal.{Refusal}
use Rattle.numbers.specs.Numbers
use Rattle.file.specs.declared.RecordKind.{RecordKind}
use Rattle.file.specs.declared.RecordKind.TheVariants.{Step, Open, Settle}
use Rattle.file.specs.Records.{open_kind, settle_kind}

abbrev pub record_kind_number : RecordKind → ℕ
record_kind_number (Step k) = Numbers.kind_number k
record_kind_number Open = open_kind
record_kind_number Settle = settle_kind

abbrev pub of_step : Result Kind Refusal → Result RecordKind Refusal
of_step (Ok k) = Ok (Step k)
of_step (Err r) = Err r

-- the kind of record that a number stands for
abbrev pub record_kind_of : ℕ → Result RecordKind Refusal
record_kind_of k =
    cond (eqb k open_kind) (Ok Open) (cond (eqb k settle_kind) (Ok Settle) (of_step (Numbers.kind_of k)))

abbrev pub KindPromise : ℕ → Result RecordKind Refusal → Type 0
KindPromise k r = r ≡ record_kind_of k
