-- After k turns the first k words are the log's, and the others the buffer's own, as many as before.
use Rattle.std.proofs.Common.{◌≡◌, ◌++◌, take, drop, length}
use Rattle.word_face.proofs.copy.Given as goal

abbrev pub invariant-loop-k : goal.invariant-loop-k
invariant-loop-k l =
    (l.to ≡ take l.k l.from ++ drop l.k l.initial.to) × (length l.to ≡ length l.initial.to)
