-- At every turn the lines of the controllers before this one are printed.
use Rattle.bank.specs.Layout.{up_from}
use Rattle.report.specs.Text.{Prints}
use Rattle.report.specs.Lines.{lines, controller_line}
use Rattle.report.proofs.lines.controller_lines.Given as goal

abbrev pub invariant-loop-i : goal.invariant-loop-i
invariant-loop-i l = Prints l.initial.to (lines (controller_line l.bank) (up_from 0 l.i)) l.to
