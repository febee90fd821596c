-- Regions laid one after another: two spots in range that have one address are one spot, and every word is a spot.
use mathlib.Core.Path.{◌≡◌, sym, ap, subst, ◌∙◌}
use mathlib.Core.List.{List, [], ◌∷◌}
use Prim.Native.Nat.{ℕ, zero, suc, ◌+◌, ◌-◌, ◌*◌, ◌/◌, ◌%◌, ◌<◌}
use native.Mathlib.Nat.{mul-zero, mod-lt, div-lt_iff_lt-mul}
use native.Mathlib.Decide.{dec_lt}
use native.Mathlib.Omega.{arith}
use lib.ListN.{length, get_or}
use lib.Arith.{digits_div, digits_mod}
use Rattle.bank.specs.Layout.{start}

-- a spot of an earlier region lies below where a later one begins
pub start-below : (ws : List ℕ) (r s i : ℕ) → r < s → i < get_or ws r 0 → start r ws + i < start s ws
start-below [] r s i l h = absurd (omega arith)
start-below (w ∷ ws) zero zero i l h = absurd (omega arith)
start-below (w ∷ ws) zero (suc s) i l h = omega arith
start-below (w ∷ ws) (suc r) zero i l h = absurd (omega arith)
start-below (w ∷ ws) (suc r) (suc s) i l h = omega (arith, start-below ws r s i (omega arith) h)

-- a spot in range is in a region that is there
pub in_regions : (ws : List ℕ) (r i : ℕ) → i < get_or ws r 0 → r < length ws
in_regions [] r i h = absurd (omega arith)
in_regions (w ∷ ws) zero i h = omega arith
in_regions (w ∷ ws) (suc r) i h = omega (arith, in_regions ws r i h)

pub one_spot : (ws : List ℕ) (r s i j : ℕ) → i < get_or ws r 0 → j < get_or ws s 0
    → start r ws + i ≡ start s ws + j → (r ≡ s) × (i ≡ j)
one_spot ws r s i j hi hj e = go (dec_lt r s) (dec_lt s r)
  where
    go : Dec (r < s) → Dec (s < r) → (r ≡ s) × (i ≡ j)
    go (yes l) q = absurd (omega (arith, start-below ws r s i l hi))
    go (no l) (yes q) = absurd (omega (arith, start-below ws s r j q hj))
    go (no l) (no q) = let z : r ≡ s = omega arith in (z, omega (arith, ap (λ x. start x ws) z))

-- the same of a table: rows of one width
pub one_row : (m k r t s : ℕ) → r < s → t < s → m * s + r ≡ k * s + t → (m ≡ k) × (r ≡ t)
one_row m k r t s h g e = (
  sym (digits_div m h) ∙ ap (λ x. x / s) e ∙ digits_div k g,
  sym (digits_mod m h) ∙ ap (λ x. x % s) e ∙ digits_mod k g,
)

-- ---- every word

-- something holds at each spot of each region, the first of which begins at word s
pub data AtSpots (P : ℕ → Type 0) : ℕ → List ℕ → Type 0 where
  end : {s : ℕ} → AtSpots P s []
  spots : {s w : ℕ} {ws : List ℕ} → ((i : ℕ) → i < w → P (s + i)) → AtSpots P (s + w) ws → AtSpots P s (w ∷ ws)

-- then it holds at every word of them
pub at_words : (P : ℕ → Type 0) (s : ℕ) (ws : List ℕ) → AtSpots P s ws → (a : ℕ) → a < start (length ws) ws → P (s + a)
at_words P s [] end a l = absurd (omega arith)
at_words P s (w ∷ ws) (spots h hs) a l = go (dec_lt a w) (at_words P (s + w) ws hs (a - w))
  where
    go : Dec (a < w) → (a - w < start (length ws) ws → P (s + w + (a - w))) → P (s + a)
    go (yes k) later = h a k
    go (no k) later = let e : s + w + (a - w) ≡ s + a = omega arith in subst P e (later (omega arith))

-- a spot of a table of so many rows: its row, and where it stands there
pub row_of : (rows s a : ℕ) → a < rows * s → (a / s < rows) × (a % s < s)
row_of rows zero a l = absurd (omega (arith, mul-zero rows))
row_of rows (suc s) a l =
    let some : 0 < suc s = omega arith in ((div-lt_iff_lt-mul some).1 l, mod-lt a some)
