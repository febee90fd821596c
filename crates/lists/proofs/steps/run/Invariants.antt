-- run: at every turn the answer of the whole list is the answer from step `accepted` on, over the bank as it then is.
use Rattle.std.proofs.Common.{◌≡◌, ◌*◌, drop}
use Rattle.bank.specs.Layout.{layout}
use Rattle.lists.specs.Lists.{run_from, run_of}
use Rattle.lists.proofs.steps.run.Given as goal

abbrev pub invariant-loop-accepted : goal.invariant-loop-accepted
invariant-loop-accepted g l =
    let L = layout g.R.Room.room in
    run_of L l.fn.bank l.fn.steps ≡ run_from L l.accepted l.bank (drop (4 * l.accepted) l.fn.steps)
