-- logs_fit: a log that fits makes those before it one more, and one that does not decides.
use mathlib.Core.Path.{refl, sym}
use borrow.Author.Tests.{le-leb, lt-leb}
use Rattle.sets.specs.Set.{every}
use Rattle.sets.proofs.Counts.{every_more, every_fails}
use Rattle.bank.proofs.unfit.logs_fit.Goals as goal

pub loop-i-init : goal.loop-i-init
unfolding every
loop-i-init g c = refl

pub returns-then-logged-count : goal.returns-then-logged-count
returns-then-logged-count g c =
    let long = rw (c.logged.ensures, c.word-count.ensures) at c.if-logged-count.true in
    sym (every_fails _ _ _ c.loop-i-test.true (lt-leb _ _ long))

pub loop-i-preserved : goal.loop-i-preserved
loop-i-preserved g c =
    let short = rw (c.logged.ensures, c.word-count.ensures) at c.if-logged-count.false in
    every_more _ _ c.loop-i.invariant (le-leb _ _ short)
