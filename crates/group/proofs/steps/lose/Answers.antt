-- lose: as a send, of one word.
use Rattle.std.proofs.Common.{rules}
use Rattle.bank.specs.Layout.{layout}
use Rattle.bank.proofs.Lending.{lent_whole, record-within}
use Rattle.refusals.proofs.Granted.{lose_granted}
use Rattle.refusals.proofs.Bounds.{ends-below}
use Rattle.group.proofs.Changes.{lost_change}
use Rattle.group.proofs.steps.lose.Goals as goal

pub returns : goal.returns
returns g c =
    let L = layout g.R.Room.room in
    let a = c.args in
    let here = ends-below L a.bank.now c.requires.sound (lose_granted L _ c.requires.free).ends in
    let (left, ran, put) = c.in_record.ensures in
    let change = lost_change L a.from a.to here.second in
    let inside = record-within L a.bank.now a.m c.requires.sound.whole here.message in
    lent_whole L a.bank.now a.m inside _ change put (search rules)
