-- with_all: the bits below n join the word.
use Rattle.sets.proofs.Digits.{with_all-or}
use Rattle.sets.proofs.with_all.Goals as goal

pub returns : goal.returns
returns c = rw (c.all_below.ensures, with_all-or)
