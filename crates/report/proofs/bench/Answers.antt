-- bench: the report is printed from the start of the buffer.
use mathlib.Core.Path.{◌∙◌}
use native.Mathlib.Omega.{arith}
use borrow.Author.Rules.{rules}
use Rattle.report.proofs.Reporting.{promised, short_report}
use Rattle.report.proofs.bench.Goals as goal

pub returns-clause-bench_promise : goal.returns-clause-bench_promise
returns-clause-bench_promise c =
    let p = promised c.args.input.now c.args.out.now c.print_report.ensures c.new-printer.ensures.start in
    let same = c.print_report.ensures.same ∙ c.new-printer.ensures.same in
    (p.0, rw (← p.1) (search rules))

pub returns-clause-upper_bound : goal.returns-clause-upper_bound
returns-clause-upper_bound c =
    let p = promised c.args.input.now c.args.out.now c.print_report.ensures c.new-printer.ensures.start in
    omega (arith, p.0, short_report c.args.input.now)
