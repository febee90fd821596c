-- Tests with numbers: what is given back where one does not hold.
use Rattle.std.specs.Prelude.{ℕ, ◌≤◌, ◌≡◌, Bool, true, false, cond}
use mathlib.Core.List.{List, [], ◌∷◌, Memᴰ}

-- a test that must hold, and the number given back where it does not
pub record Rule : Type 0 where
  pub holds : Bool
  pub number : ℕ

infix 68 ◌else◌
abbrev pub ◌else◌ : Bool → ℕ → Rule
t else k = record { holds = t; number = k }

-- the number of the first rule that does not hold, or 0
abbrev pub first_broken : List Rule → ℕ
first_broken [] = 0
first_broken (r ∷ rs) = cond r.holds (first_broken rs) r.number

-- every rule holds
abbrev pub Holds : List Rule → Type 0
Holds [] = Unit
Holds (r ∷ rs) = (r.holds ≡ true) × Holds rs

-- "The lowest number that applies is given", a number applying where a rule that has it does not hold; "with one
-- exception", 1, which is given only where no other applies
pub record LowestGiven (rs : List Rule) : Type 0 where
  pub none : first_broken rs ≡ 0 → (r : Rule) → Memᴰ r rs → r.holds ≡ true
  pub one : (first_broken rs ≡ 0 → ⊥)
      → (r : Rule) × Memᴰ r rs × (r.holds ≡ false) × (r.number ≡ first_broken rs)
  pub lowest : (r : Rule) → Memᴰ r rs → r.holds ≡ false → (r.number ≡ 1 → ⊥) → first_broken rs ≤ r.number
  pub last : first_broken rs ≡ 1 → (r : Rule) → Memᴰ r rs → r.holds ≡ false → r.number ≡ 1
