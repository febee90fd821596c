-- cut: a mask keeps the bits below n, and a word has none to lose from sixteen on.
use Rattle.std.proofs.Common.{rules}
use Rattle.sets.proofs.Words.{and-all_below}
use Rattle.sets.proofs.cut.Goals as goal

pub returns : goal.returns
returns c = rw c.all_below.ensures (and-all_below _ _ (search rules))
