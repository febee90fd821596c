-- first_of_messages: what find_map gives is the answer of the first message that has a step.
use borrow.Author.Rules.{rules}
use Rattle.bank.specs.Place.{N}
use Rattle.bank.specs.Layout.{layout, words}
use Rattle.settler.specs.Candidates.{free, of_message}
use Rattle.settler.proofs.Mapped.{rows_mapped}
use Rattle.settler.proofs.search.first_of_messages.Goals as goal

pub returns : goal.returns
returns g c =
    let L = layout g.R.Room.room in
    let b = c.args.bank.now in
    rows_mapped (free L b) (of_message (words L b N)) _ (rw c.word.ensures at c.find_map.ensures.runs)
    (λ m r q e. (search rules, λ l. search rules))
