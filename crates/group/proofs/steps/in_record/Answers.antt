-- in_record: the part that is lent is the record.
use Rattle.std.proofs.Common.{◌≡◌, ◌-◌}
use native.Mathlib.Omega.{arith}
use mathlib.Core.Path.{refl}
use borrow.Rule.Slice.PartMut.{mid_of, put_mid}
use Rattle.bank.specs.Layout.{layout, record_size}
use Rattle.group.proofs.steps.in_record.Goals as goal

pub returns : goal.returns
returns g c =
    let b = c.args.bank.now in
    let from = c.record_at.ensures in
    let long : c.record_end.result - c.record_at.result ≡ record_size (layout g.R.Room.room) =
    omega (arith, c.record_at.ensures, c.record_end.ensures) in (
      _,
      record { shown = _; shows = λ j. mid_of (from j) (long j) b; left = _; met = c.change.ensures; leaves = refl },
      λ j. put_mid (from j) (long j) b c.change.new.arg2,
    )
