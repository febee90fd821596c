-- message_lines: a turn prints the next line.
use Rattle.report.specs.Lines.{message_line}
use Rattle.report.proofs.Printing.{then}
use Rattle.report.proofs.Rows.{one_more_line}
use Rattle.report.proofs.lines.message_lines.Goals as goal

pub loop-m-preserved : goal.loop-m-preserved
loop-m-preserved c =
    then c.loop-m.invariant c.message_line.ensures (one_more_line (message_line c.args.bank.now) c.loop-m.m)
