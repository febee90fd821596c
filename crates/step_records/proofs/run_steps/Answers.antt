-- run_steps: a record that is refused ends the list's answer and the loop, and another leads to the next. The other
-- goals follow from the laws that the function names.
use Rattle.std.proofs.Common.{refl, sym, ◌∙◌}
use Rattle.numbers.proofs.OneAnswer.{refused_above}
use Rattle.step_records.proofs.ByRecord.{records_more, records_stop}
use Rattle.step_records.proofs.run_steps.Goals as goal

pub returns-in-Err : goal.returns-in-Err
returns-in-Err c =
    sym (c.loop-accepted.invariant
    ∙ records_stop _ _ _ _ _ _ _ c.loop-accepted-test.true c.in-Err.ensures (refused_above c.in-Err.refusal))

pub loop-accepted-preserved : goal.loop-accepted-preserved
loop-accepted-preserved c =
    c.loop-accepted.invariant
    ∙ records_more _ _ _ _ _ _ _ c.loop-accepted-test.true c.in_default.ensures refl
