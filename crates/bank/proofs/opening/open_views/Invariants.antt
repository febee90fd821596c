-- open_views: what is written so far, with the views from i on, is what all the views make of the bank.
use Rattle.std.proofs.Common.{◌≡◌, ◌-◌}
use Rattle.bank.specs.Layout.{layout, address, puts}
use Rattle.bank.specs.Opening.{views}
use Rattle.bank.proofs.opening.open_views.Given as goal

abbrev pub invariant-loop-i : goal.invariant-loop-i
invariant-loop-i g l =
    let by = address (layout g.R.Room.room) in
    puts by l.initial.bank (views l.n 0 l.n) ≡ puts by l.bank (views l.n l.i (l.n - l.i))
