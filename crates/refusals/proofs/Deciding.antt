-- What a function's tests decide. No proof cites these three any more: pages of docs/ name them.
use mathlib.Core.Path.{◌≡◌, sym, ap, ◌∙◌}
use mathlib.Core.Bool.{Bool, true, false, not, ◌&&◌}
use Prim.Native.Nat.{ℕ}
use borrow.Author.Tests.{not-false}
use Rattle.sets.specs.Set.{has}
use Rattle.bank.specs.Place.{Words}
use Rattle.refusals.specs.Delivery.{may_deliver}

pub first-broken : (s t : Bool) → s ≡ false → (s && t) ≡ false
first-broken s t e = rw e

-- whether i is in a set word, where t is what `has` gave back of r
pub has_tested : (x r i : ℕ) → r ≡ x → (t : Bool) → t ≡ has r i → (v : Bool) → t ≡ v → has x i ≡ v
has_tested x r i here t e v h = ap (λ (w : ℕ). has w i) (sym here) ∙ sym e ∙ h

pub may-deliver : (w : Words) (i m : ℕ) (t : Bool) → t ≡ may_deliver w i m → not t ≡ false → may_deliver w i m ≡ true
may-deliver w i m t e h = sym e ∙ not-false t h
