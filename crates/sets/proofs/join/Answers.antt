-- join: the bit joins the word, where there is such a bit.
use Rattle.sets.proofs.Words.{or-join}
use Rattle.sets.proofs.join.Goals as goal

pub returns : goal.returns
returns c = rw c.bit.ensures (or-join _ _)
