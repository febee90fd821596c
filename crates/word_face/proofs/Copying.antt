-- A copy as far as both slices reach is the copy word by word.
use mathlib.Core.Path.{◌≡◌, refl, ap, ◌∙◌}
use mathlib.Core.List.{List, [], ◌∷◌, ◌++◌}
use Prim.Native.Nat.{ℕ, zero, suc, ◌≤◌, min}
use native.Mathlib.Omega.{arith}
use lib.ListN.{length, set, take, drop}
use lib.Seq.{sets, set_out}

-- words past the end change nothing
sets_out : (vs l : List ℕ) (i : ℕ) → length l ≤ i → sets l i vs ≡ l
sets_out [] l i h = refl
sets_out (v ∷ vs) l i h =
    let none : set l i v ≡ l = set_out l i v h in
    ap (λ k. sets k (suc i) vs) none ∙ sets_out vs l (suc i) (omega arith)

-- the first word stays where words are set from the second on
sets_later : (vs l : List ℕ) (i x : ℕ) → sets (x ∷ l) (suc i) vs ≡ x ∷ sets l i vs
sets_later [] l i x = refl
sets_later (v ∷ vs) l i x = sets_later vs (set l i v) (suc i) x

pub front_copied : (from to : List ℕ) (n : ℕ) → n ≡ min (length from) (length to)
    → sets to 0 from ≡ take n from ++ drop n to
front_copied (v ∷ vs) (x ∷ xs) (suc n) e =
    sets_later vs xs 0 v ∙ ap (λ l. v ∷ l) (front_copied vs xs n (omega arith))
front_copied [] to zero e = refl
front_copied from [] zero e = sets_out from [] 0 (omega arith)
front_copied (v ∷ vs) (x ∷ xs) zero e = absurd (omega arith)
front_copied [] to (suc n) e = absurd (omega arith)
front_copied from [] (suc n) e = absurd (omega arith)
