-- step: what was asked for and is not refused is allowed.
use mathlib.Core.Path.{sym}
use Rattle.refusals.proofs.Accepted.{allowed_step}
use Rattle.group.proofs.one_step.step.Goals as goal

pub apply-requires : goal.apply-requires
apply-requires g c =
    let e = c.in_ok-step.ensures in allowed_step _ _ c.args.asked _ (sym e.refused) e.step
