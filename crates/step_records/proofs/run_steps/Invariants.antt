-- run_steps: at every turn the answer of the whole list is the answer from record `accepted` on, over the bank as it
-- then is.
use Rattle.std.proofs.Common.{◌≡◌, drop}
use Rattle.bank.specs.Layout.{paper}
use Rattle.lists.specs.Lists.{run_from, run_of}
use Rattle.step_records.specs.Records.{flat}
use Rattle.step_records.proofs.run_steps.Given as goal

abbrev pub invariant-loop-accepted : goal.invariant-loop-accepted
invariant-loop-accepted l =
    run_of paper l.fn.bank (flat l.fn.steps) ≡ run_from paper l.accepted l.bank (flat (drop l.accepted l.fn.steps))
