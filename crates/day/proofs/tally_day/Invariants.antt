-- tally_day: at every turn the answer is the one from the tally so far over the entries that are left.
use Rattle.std.proofs.Common.{◌≡◌, drop}
use Rattle.bank.specs.Layout.{layout, words}
use Rattle.day.specs.Tallies.{tally_of}
use Rattle.day.proofs.Asking.{tally_from}
use Rattle.day.proofs.tally_day.Given as goal

abbrev pub invariant-loop-m : goal.invariant-loop-m
invariant-loop-m g l =
    let L = layout g.R.Room.room in
    tally_of L l.fn.bank l.fn.who l.fn.day ≡ tally_from l.fn.day (words L l.fn.bank) l.t (drop l.m-index l.log)
