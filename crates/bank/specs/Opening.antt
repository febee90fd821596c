-- Opening a group: 0 everywhere except N, the mode, who is up and what each controller takes to be up.
use Rattle.std.specs.Prelude.{ℕ, ◌≡◌, cond, List, [], ◌∷◌, map, eqb, length, replicate}
use Rattle.sets.specs.Set.{all_below}
use Rattle.bank.specs.Place.{Place, Write, ◌≔◌, N, mode, up, view}
use Rattle.bank.specs.Layout.{Layout, size, address, puts, up_from}
use Rattle.bank.specs.Fit.{is_size, is_mode}
use Rattle.bank.specs.Rules.{◌else◌, first_broken}

-- the number given back, and the bank afterwards
pub record Answer : Type 0 where
  pub refusal : ℕ
  pub bank : List ℕ

abbrev pub answer : ℕ → List ℕ → Answer
answer r b = record { refusal = r; bank = b }

-- the first k controllers from i on each take all n to be up
abbrev pub views : ℕ → ℕ → ℕ → List (Write Place)
views n i k = map (λ (j : ℕ). view j ≔ all_below n) (up_from i k)

abbrev pub opening : ℕ → ℕ → List (Write Place)
opening n k = N ≔ n ∷ mode ≔ k ∷ up ≔ all_below n ∷ views n 0 n

unfoldable pub opened : Layout → ℕ → ℕ → List ℕ
opened L n k = puts (address L) (replicate (size L) 0) (opening n k)

abbrev pub open_refusal : Layout → List ℕ → ℕ → ℕ → ℕ
open_refusal L b n k =
    first_broken (eqb (length b) (size L) else 1 ∷ is_size L n else 11 ∷ is_mode k else 12 ∷ [])

unfoldable pub open_of : Layout → List ℕ → ℕ → ℕ → Answer
open_of L b n k =
    answer (open_refusal L b n k) (cond (eqb (open_refusal L b n k) 0) (opened L n k) b)

-- the promise, of the bank before, the arguments, the answer and the bank afterwards
abbrev pub OpenPromise : Layout → List ℕ → ℕ → ℕ → ℕ → List ℕ → Type 0
OpenPromise L b n k r b' = answer r b' ≡ open_of L b n k
