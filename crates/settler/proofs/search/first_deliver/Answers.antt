-- first_deliver: what find_map gives is the first delivery that nothing refuses.
use borrow.Author.Rules.{rules}
use mathlib.Core.List.{[], ◌∷◌}
use native.Mathlib.Omega.{arith}
use Rattle.bank.specs.Place.{N, message, held}
use Rattle.bank.specs.Layout.{layout, address, words}
use Rattle.refusals.specs.Step.{deliver}
use Rattle.settler.specs.Candidates.{below, free}
use Rattle.settler.proofs.First.{each_single}
use Rattle.settler.proofs.Free.{ok_is, deliver_row}
use Rattle.settler.proofs.Mapped.{rows_mapped}
use Rattle.settler.proofs.search.first_deliver.Goals as goal

pub returns : goal.returns
returns g c =
    let L = layout g.R.Room.room in
    let b = c.args.bank.now in
    let m = c.args.m in
    let small = c.type_inv.bank (address L (message m held)) in
    rw (each_single (λ i. deliver i m) (below (words L b N)))
    (rows_mapped (free L b) (λ i. deliver i m ∷ []) _ (rw c.word.ensures at c.find_map.ensures.runs)
    (λ i r q e. (search rules, λ l. search (rules, ok_is, deliver_row L b i m (omega (arith, small))))))
