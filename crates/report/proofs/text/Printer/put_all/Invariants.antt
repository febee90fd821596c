-- At every turn the bytes before this one are printed.
use Rattle.std.proofs.Common.{take}
use Rattle.report.specs.Text.{Prints}
use Rattle.report.proofs.text.Printer.put_all.Given as goal

abbrev pub invariant-loop-b : goal.invariant-loop-b
invariant-loop-b l = Prints l.initial.self (take l.b-index l.text) l.self
