-- What every crate needs of tests and of promises that are equations.
use mathlib.Core.Path.{◌≡◌, refl, sym, ◌∙◌}
use mathlib.Core.Bool.{Bool, true, false, ◌&&◌, false≢true}

pub both : (s t : Bool) → (s && t) ≡ true → (s ≡ true) × (t ≡ true)
both true t e = (refl, e)
both false t e = absurd (false≢true e)

-- a promise `r ≡ definition` leaves no room: two answers that it allows are equal
pub one_value : {A : Type 0} {d r s : A} → r ≡ d → s ≡ d → r ≡ s
one_value e f = e ∙ sym f
