-- The table of the paper's proved cases holds: computed.
use mathlib.Core.Path.{refl}
use Rattle.sets.specs.Set.{has, with, without, all_below, cut, with_all, every, within, how_many, count_below}
use Rattle.bank.specs.Layout.{fields}
use Rattle.bank.specs.Opening.{opened}
use Rattle.refusals.specs.Delivery.{enough}
use Rattle.refusals.specs.Promises.{refusal_of}
use Rattle.group.specs.Promises.{step_of}
use Rattle.lists.specs.Lists.{run_from, run_of}
use Rattle.settler.specs.Candidates.{candidates, next}
use Rattle.settler.specs.Settling.{settle_from, settle_of}
use Rattle.day.specs.Days.{day_of}
use Rattle.day.specs.Tallies.{add_all, all_given, tally_of}
use Rattle.laws.specs.Table.{table, seen_after, seen_of, TableHolds}

pub table-holds : TableHolds
unfolding has with without all_below cut with_all every within how_many count_below fields opened enough refusal_of
    step_of
    run_from run_of candidates next settle_from settle_of day_of add_all all_given tally_of table seen_after seen_of
table-holds = refl
