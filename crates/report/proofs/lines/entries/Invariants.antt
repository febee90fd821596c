-- At every turn the entries before this one are printed.
use Rattle.std.proofs.Common.{take}
use Rattle.report.specs.Text.{Prints}
use Rattle.report.specs.Lines
use Rattle.report.proofs.lines.entries.Given as goal

abbrev pub invariant-loop-m : goal.invariant-loop-m
invariant-loop-m l = Prints l.initial.to (Lines.entries (take l.m-index l.log)) l.to
