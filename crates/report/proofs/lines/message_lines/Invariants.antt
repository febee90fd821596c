-- At every turn the lines of the messages before this one are printed.
use Rattle.bank.specs.Layout.{up_from}
use Rattle.report.specs.Text.{Prints}
use Rattle.report.specs.Lines.{lines, message_line}
use Rattle.report.proofs.lines.message_lines.Given as goal

abbrev pub invariant-loop-m : goal.invariant-loop-m
invariant-loop-m l = Prints l.initial.to (lines (message_line l.bank) (up_from 0 l.m)) l.to
