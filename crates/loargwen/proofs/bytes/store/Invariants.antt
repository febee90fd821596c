-- The bytes so far are those of the words so far.
use Rattle.std.proofs.Common.{◌≡◌, ◌*◌, take}
use Rattle.loargwen.specs.Bytes.{bytes_of}
use Rattle.loargwen.proofs.bytes.store.Given as goal

abbrev pub invariant-loop-k : goal.invariant-loop-k
invariant-loop-k l = take (2 * l.k) l.bytes ≡ bytes_of (take l.k l.words)
