-- The scope paper's worked example: its 50 bytes print its six lines.
use Prim.Native.Nat.{ℕ}
use mathlib.Core.Path.{◌≡◌, refl}
use mathlib.Core.List.{List, [], ◌∷◌}
use Rattle.sets.specs.Set.{has, with, without, all_below, cut, with_all, every, within, how_many, count_below}
use Rattle.bank.specs.Layout.{fields}
use Rattle.bank.specs.Opening.{opened, open_of}
use Rattle.refusals.specs.Delivery.{enough}
use Rattle.refusals.specs.Promises.{refusal_of}
use Rattle.group.specs.Promises.{step_of}
use Rattle.settler.specs.Candidates.{candidates, next}
use Rattle.settler.specs.Settling.{settle_from, settle_of}
use Rattle.file.specs.Records.{record_length, find_at, begun}
use Rattle.report.specs.Text.{decimal_in}
use Rattle.report.specs.Lines.{bank_lines}
use Rattle.report.specs.Bench.{applied, play_from, bench_of}

abbrev pub worked_example : List ℕ
worked_example =
    6 ∷ 0 ∷ 16 ∷ 0 ∷ 3 ∷ 0 ∷ 1 ∷ 0 ∷ 8 ∷ 0 ∷ 1 ∷ 0 ∷ 0 ∷ 0 ∷ 96 ∷ 0 ∷ 244 ∷ 1 ∷ 8 ∷ 0 ∷ 2 ∷ 0 ∷ 0 ∷ 0 ∷
    0 ∷ 0 ∷ 0 ∷ 0 ∷ 8 ∷ 0 ∷ 2 ∷ 0 ∷ 0 ∷ 0 ∷ 1 ∷ 0 ∷ 0 ∷ 0 ∷ 4 ∷ 0 ∷ 5 ∷ 0 ∷ 0 ∷ 0 ∷ 4 ∷ 0 ∷ 17 ∷ 0 ∷
    100 ∷ 0 ∷ []

abbrev pub six_lines : List ℕ
six_lines =
    103 ∷ 114 ∷ 111 ∷ 117 ∷ 112 ∷ 32 ∷ 51 ∷ 32 ∷ 49 ∷ 10 ∷ 109 ∷ 115 ∷ 103 ∷ 32 ∷ 48 ∷ 32 ∷ 102 ∷ 114 ∷
    111 ∷ 109 ∷ 32 ∷ 48 ∷ 32 ∷ 97 ∷ 116 ∷ 32 ∷ 57 ∷ 54 ∷ 32 ∷ 118 ∷ 97 ∷ 108 ∷ 117 ∷ 101 ∷ 32 ∷ 53 ∷
    48 ∷ 48 ∷ 32 ∷ 104 ∷ 101 ∷ 108 ∷ 100 ∷ 32 ∷ 48 ∷ 48 ∷ 48 ∷ 55 ∷ 32 ∷ 100 ∷ 101 ∷ 108 ∷ 105 ∷ 118 ∷
    101 ∷ 114 ∷ 101 ∷ 100 ∷ 32 ∷ 48 ∷ 48 ∷ 48 ∷ 54 ∷ 10 ∷ 99 ∷ 116 ∷ 108 ∷ 32 ∷ 48 ∷ 32 ∷ 100 ∷ 111 ∷
    119 ∷ 110 ∷ 32 ∷ 108 ∷ 111 ∷ 103 ∷ 10 ∷ 99 ∷ 116 ∷ 108 ∷ 32 ∷ 49 ∷ 32 ∷ 117 ∷ 112 ∷ 32 ∷ 108 ∷
    111 ∷ 103 ∷ 32 ∷ 48 ∷ 10 ∷ 99 ∷ 116 ∷ 108 ∷ 32 ∷ 50 ∷ 32 ∷ 117 ∷ 112 ∷ 32 ∷ 108 ∷ 111 ∷ 103 ∷ 32 ∷
    48 ∷ 10 ∷ 101 ∷ 110 ∷ 100 ∷ 32 ∷ 49 ∷ 57 ∷ 32 ∷ 48 ∷ 10 ∷ []

pub worked-example : bench_of worked_example ≡ six_lines
unfolding has with without all_below cut with_all every within how_many count_below fields opened open_of enough
    refusal_of step_of candidates next settle_from settle_of record_length find_at begun decimal_in
    bank_lines applied play_from bench_of
worked-example = refl
