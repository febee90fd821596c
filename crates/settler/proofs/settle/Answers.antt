-- settle: a step that is taken moves one from the budget to the count (`from_turn`), and where none is left, or no
-- budget, both end.
use mathlib.Core.Path.{sym, ◌∙◌}
use native.Mathlib.Nat.{sub-zero}
use native.Mathlib.Omega.{arith}
use Rattle.numbers.proofs.OneAnswer.{ok_given, unless_passed}
use Rattle.bank.specs.Layout.{layout}
use Rattle.bank.proofs.Fitness.{fit_facts}
use Rattle.settler.proofs.Taking.{quiet_none, quiet_is, turn, not_refused}
use Rattle.settler.proofs.Endings.{from_quiet, from_turn, from_last, settle_begins}
use Rattle.settler.proofs.settle.Goals as goal

pub loop-steps-init : goal.loop-steps-init
loop-steps-init g c =
    let f = sym c.fit.ensures ∙ unless_passed _ _ _ (sym c.unless.ensures ∙ c.in_ok-unless.was) in
    (fit_facts _ _ f, rw sub-zero (settle_begins _ _ _ f))

pub unwrap-requires : goal.unwrap-requires
unwrap-requires g c =
    let found = sym c.in-Some.is ∙ c.first_step.ensures in
    ok_given _ (not_refused (layout g.R.Room.room) c.loop-steps.bank c.take.new.bank _ _ c.loop-steps.invariant.0 found
    c.take.ensures)

pub returns-in_default : goal.returns-in_default
returns-in_default g c =
    let l = c.loop-steps in
    let none_left = quiet_none _ (sym c.in_default.is ∙ c.first_step.ensures) in
    sym (l.invariant.1 ∙ from_quiet (layout g.R.Room.room) l.steps l.bank _ none_left)

pub loop-steps-preserved : goal.loop-steps-preserved
loop-steps-preserved g c =
    let L = layout g.R.Room.room in
    let l = c.loop-steps in
    let found = sym c.in-Some.is ∙ c.first_step.ensures in
    let t = turn L l.bank c.take.new.bank _ _ l.invariant.0 found c.take.ensures in
    (t.sound, l.invariant.1 ∙ from_turn L l.steps _ l.bank c.take.new.bank c.loop-steps-test.true t)

pub returns : goal.returns
returns g c =
    let l = c.loop-steps in
    let quiet = quiet_is _ _ (rw c.first_step-2.ensures at c.is_none-quiet.ensures) in
    rw quiet (sym (l.invariant.1 ∙ from_last (layout g.R.Room.room) l.steps c.args.budget l.bank (omega arith)))
