-- print_report: the tests part the three reports.
use mathlib.Core.Path.{refl, sym, ap₂, ◌∙◌}
use Rattle.numbers.proofs.OneAnswer.{refused_above}
use Rattle.bank.specs.Layout.{paper}
use Rattle.bank.specs.Opening.{open_of}
use Rattle.file.proofs.Finding.{begun-length}
use Rattle.report.specs.Bench.{blank_bank}
use Rattle.report.proofs.Printing.{then}
use Rattle.report.proofs.Reporting.{reports_refused, reports_played}
use Rattle.report.proofs.print_report.Goals as goal

pub returns-in-Err : goal.returns-in-Err
returns-in-Err c =
    let opens = c.in-Err.ensures ∙ ap₂ (open_of paper blank_bank) c.word_at-n.ensures c.word_at-mode.ensures in
    let begun = sym c.begun.ensures ∙ c.if-not-begun.false in
    rw (← reports_refused _ begun opens (refused_above c.in-Err.refusal)) c.end_line-in-Err.ensures

pub play-ended-requires-clause-within : goal.play-ended-requires-clause-within
play-ended-requires-clause-within c = begun-length _ (sym c.begun.ensures ∙ c.if-not-begun.false)

pub returns : goal.returns
returns c =
    let opens = c.in_default.ensures ∙ ap₂ (open_of paper blank_bank) c.word_at-n.ensures c.word_at-mode.ensures in
    let begun = sym c.begun.ensures ∙ c.if-not-begun.false in
    then c.bank_lines.ensures c.end_line-2.ensures (sym (reports_played _ begun opens refl c.play-ended.ensures))
