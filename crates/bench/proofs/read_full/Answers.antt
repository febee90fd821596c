-- A turn puts what it read right after what had been read (`read_more`).
use Rattle.std.proofs.Common.{◌≡◌, ℕ, ◌+◌, ◌≤◌, List, ◌++◌, rules, length, take, sym, ap, subst, ◌∙◌, length-take-le}
use Rattle.std.proofs.Math.Seq.{take-append-add}
use Rattle.std.proofs.lemmas.List.{take-append-le}
use Rattle.std.proofs.KnownBytes.{Consumes-trans}
use Rattle.std.specs.declared.option.Option.{Option}
use Rattle.std.specs.Io.KnownBytes.{Consumes}
use Rattle.bench.proofs.read_full.Goals as goal

read_more : (a b c : Option (List ℕ)) (xs ys after : List ℕ) (n m : ℕ) → n ≤ length xs → m ≤ length ys
    → Consumes a b (take n xs)
    → Consumes b c (take m ys) → Consumes a c (take (n + m) (take n xs ++ (ys ++ after)))
read_more a b c xs ys after n m within fits first second =
    let joined : take (n + m) (take n xs ++ (ys ++ after)) ≡ take n xs ++ take m ys =
    ap (λ k. take (k + m) (take n xs ++ (ys ++ after))) (sym (length-take-le n xs within))
    ∙ take-append-add (take n xs) (ys ++ after) m
    ∙ ap (λ l. take n xs ++ l) (take-append-le m ys after fits) in
    subst (Consumes a c) (sym joined) (Consumes-trans a b c _ _ first second)

pub loop-n-preserved : goal.loop-n-preserved
loop-n-preserved g c =
    let before = c.loop-n.invariant in
    let read = c.in_ok-more.ensures in
    (search rules, read_more _ _ _ c.loop-n.buf c.read.new.buf _ _ _ before.0 read.bound.0 before.1 read.bytes.0)
