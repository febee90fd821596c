-- receive: all words are read before one is written, so the stores are the definition's writes.
use Rattle.std.proofs.Common.{◌<◌}
use native.Mathlib.Omega.{arith}
use Rattle.sets.proofs.Members.{join-with}
use Rattle.bank.proofs.Rooms.{few}
use Rattle.group.proofs.record.receive.Goals as goal

pub returns : goal.returns
returns g c =
    let i : c.args.i < 16 = omega (arith, few g.R.Room.room) in
    let f : c.args.from < 16 = omega (arith, few g.R.Room.room) in
    rw (
      c.without.ensures,
      c.join.ensures,
      c.join-2.ensures,
      c.relay.ensures,
      c.unsent_at-u.ensures,
      c.acked_at-a.ensures,
      c.flight_at-f.ensures,
      join-with _ _ i,
      join-with _ _ f,
    )
