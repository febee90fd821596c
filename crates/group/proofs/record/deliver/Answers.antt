-- deliver: one word, with a controller that a word has a bit for.
use Rattle.std.proofs.Common.{◌<◌}
use native.Mathlib.Omega.{arith}
use Rattle.sets.proofs.Members.{join-with}
use Rattle.bank.proofs.Rooms.{few}
use Rattle.group.proofs.record.deliver.Goals as goal

pub returns : goal.returns
returns g c =
    let h : c.args.i < 16 = omega (arith, few g.R.Room.room) in
    rw (c.join.ensures, join-with _ _ h)
