-- broadcast: the next record is written whole, and the count is one more.
use Rattle.std.proofs.Common.{rules, ℕ, ◌<◌, ◌+◌, [], ◌∷◌}
use mathlib.Core.Path.{sym, ap, ◌∙◌}
use borrow.Author.Tests.{ltb-true}
use lib.ListN.{set}
use Rattle.bank.specs.Place.{N, count, record_of, ◌≔◌}
use Rattle.bank.specs.Layout.{layout, address, words, in_record}
use Rattle.bank.proofs.Lending.{lent_whole, record-within}
use Rattle.bank.proofs.Reading.{puts-append}
use Rattle.group.specs.Writes.{fresh_record}
use Rattle.refusals.proofs.Granted.{broadcast_granted}
use Rattle.group.proofs.Changes.{fresh_change}
use Rattle.group.proofs.steps.broadcast.Goals as goal

pub returns : goal.returns
returns g c =
    let L = layout g.R.Room.room in
    let a = c.args in
    let b = a.bank.now in
    let m : ℕ = words L b count in
    let next : m < L.messages = ltb-true _ _ (broadcast_granted L (words L b) a.stamp a.value c.requires.free).room in
    let new = fresh_record L (words L b N) a.who a.stamp a.value in
    let (left, ran, put) = c.in_record.ensures in
    let inside = record-within L b m c.requires.sound.whole next in
    let written = lent_whole L b m inside new (fresh_change L _ _ _ _) put (search rules) in
    ap (λ l. set l (address L count) (m + 1)) written
    ∙ sym (puts-append (address L) b (in_record m (new (record_of (words L b) m))) (count ≔ (m + 1) ∷ []))
