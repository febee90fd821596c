-- run: a refused step ends the list's answer and the loop. The other goals follow from the laws that the function
-- names.
use Rattle.std.proofs.Common.{sym, ◌∙◌, arith}
use Rattle.numbers.proofs.OneAnswer.{refused_above}
use Rattle.lists.proofs.StepByStep.{list_stop}
use Rattle.lists.proofs.steps.run.Goals as goal

pub returns-in-Err : goal.returns-in-Err
returns-in-Err g c =
    sym (c.loop-accepted.invariant
    ∙ list_stop _ _ _ _ _ _ c.as_chunks.ensures.front c.in-Err.ensures (omega arith) (refused_above c.in-Err.refusal))
