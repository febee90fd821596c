-- receive: as a send.
use Rattle.std.proofs.Common.{rules}
use Rattle.bank.specs.Place.{N}
use Rattle.bank.specs.Layout.{layout, words}
use Rattle.bank.proofs.Lending.{lent_whole, record-within}
use Rattle.refusals.proofs.Granted.{receive_granted}
use Rattle.refusals.proofs.Bounds.{ends-below}
use Rattle.group.proofs.Changes.{received_change}
use Rattle.group.proofs.steps.receive.Goals as goal

pub returns : goal.returns
returns g c =
    let L = layout g.R.Room.room in
    let a = c.args in
    let b = a.bank.now in
    let here = ends-below L b c.requires.sound (receive_granted L _ c.requires.free).ends in
    let (left, ran, put) = c.in_record.ensures in
    let change = received_change L (words L b N) a.i a.from here.first in
    let inside = record-within L b a.m c.requires.sound.whole here.message in
    lent_whole L b a.m inside _ change put (search rules)
