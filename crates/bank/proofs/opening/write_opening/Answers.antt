-- write_opening: the stores are the writes of an opening in their order, over words that are all 0.
use Rattle.std.proofs.Common.{◌≡◌, ℕ, List, length}
use mathlib.Core.Path.{ap, ◌∙◌}
use native.Mathlib.Omega.{arith}
use lib.ListN.{replicate}
use Rattle.sets.specs.Set.{all_below}
use Rattle.bank.specs.Layout.{layout, size, address, puts}
use Rattle.bank.specs.Opening.{opening, opened}
use Rattle.bank.proofs.Rooms.{few}
use Rattle.bank.proofs.opening.write_opening.Goals as goal

pub returns : goal.returns
unfolding opened
returns g c =
    let L = layout g.R.Room.room in
    let whole : length c.args.bank.now ≡ size L = omega arith in
    let all : c.all_below.result ≡ all_below c.args.n =
    c.all_below.ensures ∙ ap all_below (omega (arith, few g.R.Room.room)) in
    let zeros : c.clear.new.words ≡ replicate (size L) 0 = c.clear.ensures ∙ ap (λ k. replicate k 0) whole in
    c.open_views.ensures
    ∙ rw all (ap (λ (b : List ℕ). puts (address L) b (opening c.args.n c.args.mode)) zeros)
