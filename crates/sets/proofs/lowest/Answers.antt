-- lowest: the zeros below the lowest bit of the members below n are its number; where there is no member it is n.
use mathlib.Core.Path.{sym, ap, ◌∙◌}
use lib.Count.{count_trailing_zeros}
use Rattle.sets.proofs.Least.{trailing_lowest, cut_fits, lowest-cut, lowest-none}
use Rattle.sets.proofs.lowest.Goals as goal

pub returns-then-members-eq0 : goal.returns-then-members-eq0
returns-then-members-eq0 c = sym (lowest-none _ _ (sym c.cut-members.ensures ∙ c.if-members-eq0.true))

pub returns : goal.returns
returns c =
    let e = c.cut-members.ensures in
    ap (count_trailing_zeros 16) e
    ∙ trailing_lowest 16 _
    ∙ lowest-cut _ _ (cut_fits _ _ 16 c.ranges.w.fits) (λ z. c.if-members-eq0.false (e ∙ z))
