-- controller_lines: a turn prints the next line.
use Rattle.report.specs.Lines.{controller_line}
use Rattle.report.proofs.Printing.{then}
use Rattle.report.proofs.Rows.{one_more_line}
use Rattle.report.proofs.lines.controller_lines.Goals as goal

pub loop-i-preserved : goal.loop-i-preserved
loop-i-preserved c =
    then c.loop-i.invariant c.controller_line.ensures (one_more_line (controller_line c.args.bank.now) c.loop-i.i)
