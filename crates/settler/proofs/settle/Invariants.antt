-- At every turn the bank is fit, and the whole ending is the ending from here on, with what is left of the budget.
use Prim.Native.Nat.{◌-◌}
use mathlib.Core.Path.{◌≡◌}
use Rattle.bank.specs.Layout.{layout}
use Rattle.bank.specs.Fit.{Fit}
use Rattle.settler.specs.Settling.{settle_from, settle_of}
use Rattle.settler.proofs.settle.Given as goal

abbrev pub invariant-loop-steps : goal.invariant-loop-steps
invariant-loop-steps g l =
    let L = layout g.R.Room.room in
    Fit L l.bank × (settle_of L l.initial.bank l.budget ≡ settle_from L l.steps l.bank (l.budget - l.steps))
