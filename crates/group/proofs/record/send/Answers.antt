-- send: both words are read before either is written, so the stores are the definition's writes.
use Rattle.std.proofs.Common.{◌<◌}
use native.Mathlib.Omega.{arith}
use Rattle.sets.proofs.Members.{join-with}
use Rattle.bank.proofs.Rooms.{few}
use Rattle.group.proofs.record.send.Goals as goal

pub returns : goal.returns
returns g c =
    let h : c.args.from < 16 = omega (arith, few g.R.Room.room) in
    rw (c.without.ensures, c.join.ensures, c.unsent_at-u.ensures, c.flight_at-f.ensures, join-with _ _ h)
