-- A turn writes the next word's two bytes after those that stand (`bytes_more`); at the end none are left.
use Rattle.std.proofs.Common.{◌≡◌, ◌+◌, ◌*◌, arith, length, refl, sym}
use Rattle.std.proofs.Math.Facts.{Fits-lt-pow}
use Rattle.std.proofs.lemmas.List.{take_all}
use Rattle.std.proofs.lemmas.Slice.{take-put_mid}
use Rattle.loargwen.specs.Bytes.{bytes_of}
use Rattle.loargwen.proofs.Crossing.{bytes_more}
use Rattle.loargwen.proofs.bytes.store.Goals as goal

pub loop-k-init : goal.loop-k-init
unfolding bytes_of
loop-k-init c = refl

pub loop-k-preserved : goal.loop-k-preserved
loop-k-preserved c =
    let k = c.loop-k.k in
    let more = bytes_more c.args.words.now k (omega arith) (Fits-lt-pow (c.type_inv.words k)) in
    let written = rw c.to_le_bytes.ensures at c.copy_from_slice.ensures.after in
    let long : 2 * (k + 1) ≡ 2 * k + length c.copy_from_slice.new.self = omega (arith, c.copy_from_slice.ensures.len) in
    rw (take-put_mid _ _ c.loop-k.bytes _ _ long (omega arith), c.loop-k.invariant, written) (sym more)

pub returns : goal.returns
returns c =
    let words = take_all c.loop-k.k c.args.words.now (omega arith) in
    let bytes = take_all (2 * c.loop-k.k) c.loop-k.bytes (omega arith) in
    cc
