-- first_of_rows: what find_map gives is the answer of the first row that has a step.
use borrow.Author.Rules.{rules}
use mathlib.Core.List.{map}
use Rattle.std.proofs.Common.{of_calls}
use Rattle.bank.specs.Place.{N}
use Rattle.bank.specs.Layout.{paper, words}
use Rattle.settler.specs.Candidates.{below}
use Rattle.settler.proofs.Free.{row_given}
use Rattle.settler.proofs.Mapped.{rows_mapped}
use Rattle.settler.proofs.search.first_of_rows.Goals as goal

pub returns : goal.returns
returns g c p s decided coded =
    let n = words paper c.args.bank.now N in
    rows_mapped p (λ i. map (s i) (below n)) _
    (rw c.word-n.ensures at c.find_map.ensures.runs)
    (λ i r q e. (search rules, λ l. search (rules, of_calls, row_given p (s i) n, decided i, coded i)))
