-- open_views: a turn writes the first of the views that are left.
use Rattle.std.proofs.Common.{◌≡◌, ℕ, ◌+◌, ◌-◌, List, slice_set}
use mathlib.Core.Path.{sym, ap, ap₂, ◌∙◌}
use native.Mathlib.Omega.{arith}
use Rattle.sets.specs.Set.{all_below}
use Rattle.bank.specs.Place.{Place, Write}
use Rattle.bank.specs.Layout.{layout, address, puts}
use Rattle.bank.specs.Opening.{views}
use Rattle.bank.proofs.Rooms.{few}
use Rattle.bank.proofs.Views.{views-more}
use Rattle.bank.proofs.opening.open_views.Goals as goal

pub loop-i-preserved : goal.loop-i-preserved
loop-i-preserved g c =
    let n : ℕ = c.args.n in
    let i : ℕ = c.loop-i.i in
    let by : List ℕ → List (Write Place) → List ℕ = puts (address (layout g.R.Room.room)) in
    let more : List (Write Place) = views n (i + 1) (n - (i + 1)) in
    let all : c.all_below-all.result ≡ all_below n =
    c.all_below-all.ensures ∙ ap all_below (omega (arith, few g.R.Room.room)) in
    c.loop-i.invariant
    ∙ ap (by c.loop-i.bank) (views-more n i c.loop-i-test.true)
    ∙ ap₂ (λ (a v : ℕ). by (slice_set c.loop-i.bank a v) more) (sym c.view_at.ensures) (sym all)
