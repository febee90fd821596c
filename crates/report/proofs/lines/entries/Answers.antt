-- entries: a turn prints the next entry.
use Rattle.report.proofs.Printing.{then}
use Rattle.report.proofs.Rows.{one_more_entry}
use Rattle.report.proofs.lines.entries.Goals as goal

pub loop-m-preserved : goal.loop-m-preserved
loop-m-preserved c = then c.loop-m.invariant c.number.ensures (one_more_entry _ c.loop-m.m-index c.loop-m-test.true)
