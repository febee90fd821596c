-- log: the part that is handed back ends within the bank.
use Rattle.std.proofs.Common.{sym, arith}
use Rattle.bank.specs.Layout.{layout}
use Rattle.lists.proofs.Asking.{log_ends}
use Rattle.lists.proofs.logs.log.Goals as goal

pub slice_bounds-result-end-2 : goal.slice_bounds-result-end-2
slice_bounds-result-end-2 g c =
    let (refusal, length) = c.in-Ok.ensures in
    let L = layout g.R.Room.room in
    omega (arith, c.log_at-e.ensures, log_ends L c.args.bank.now c.args.who _ (sym refusal) length)
