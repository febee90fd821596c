-- deliver: the record is marked; then the message joins the log, whose length was read before.
use Rattle.std.proofs.Common.{rules, ℕ, ◌≡◌, ◌+◌}
use mathlib.Core.Path.{ap, ◌∙◌}
use lib.ListN.{get_or, set}
use Rattle.bank.specs.Place.{log_length, log}
use Rattle.bank.specs.Layout.{layout, address, words}
use Rattle.bank.proofs.Lending.{lent_whole, record-within}
use Rattle.refusals.proofs.Granted.{deliver_granted}
use Rattle.refusals.proofs.Bounds.{message-below}
use Rattle.group.proofs.Changes.{marked_change}
use Rattle.group.proofs.steps.deliver.Goals as goal

pub returns : goal.returns
returns g c =
    let L = layout g.R.Room.room in
    let a = c.args in
    let b = a.bank.now in
    let given = message-below L b c.requires.sound a.m (deliver_granted L (words L b) c.requires.free).due.given in
    let tail = c.length_at-l.ensures in
    let read : get_or b c.length_at-l.result 0 ≡ words L b (log_length a.i) = ap (λ (x : ℕ). get_or b x 0) tail in
    let at = c.log_at-k.ensures ∙ ap (λ (x : ℕ). address L (log a.i x)) read in
    let (left, ran, put) = c.in_record.ensures in
    let inside = record-within L b a.m c.requires.sound.whole given in
    let marked = lent_whole L b a.m inside _ (marked_change L a.i) put (search rules) in
    λ j. set (set (marked j) (at j) a.m) (tail j) (read j + 1)
