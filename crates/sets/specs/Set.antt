-- A word as a set of controllers: controller i is a member where bit i of the word is set. Nothing here has a size.
use Rattle.std.specs.Prelude.{ℕ, zero, suc, ◌+◌, ◌-◌, ◌/◌, ◌%◌, ◌^◌, Bool, true, cond, not, ◌&&◌, ◌||◌, eqb, ltb}

-- whether controller i is a member
unfoldable pub has : ℕ → ℕ → Bool
has w i = eqb (w / 2 ^ i % 2) 1

-- the set with controller i, and without it
unfoldable pub with : ℕ → ℕ → ℕ
with w i = cond (has w i) w (w + 2 ^ i)

unfoldable pub without : ℕ → ℕ → ℕ
without w i = cond (has w i) (w - 2 ^ i) w

-- all controllers below n and no other
unfoldable pub all_below : ℕ → ℕ
all_below n = 2 ^ n - 1

-- the members below n alone
unfoldable pub cut : ℕ → ℕ → ℕ
cut w n = w % 2 ^ n

-- the set with all controllers below n; members of n and above stay as they are
unfoldable pub with_all : ℕ → ℕ → ℕ
with_all w n = (w - cut w n) + all_below n

-- whether a test holds of every number below n
unfoldable pub every : (ℕ → Bool) → ℕ → Bool
every p zero = true
every p (suc n) = every p n && p n

-- whether every member of u below n is a member of w
unfoldable pub within : ℕ → ℕ → ℕ → Bool
within u w n = every (λ i. not (has u i) || has w i) n

-- how many numbers below n pass a test, and how many members a set has below n
unfoldable pub how_many : (ℕ → Bool) → ℕ → ℕ
how_many p zero = 0
how_many p (suc n) = how_many p n + cond (p n) 1 0

unfoldable pub count_below : ℕ → ℕ → ℕ
count_below w n = how_many (has w) n

-- A u16 has room for sixteen controllers; one that has no bit there cannot join.
unfoldable pub join : ℕ → ℕ → ℕ
join w i = cond (ltb i 16) (with w i) w

-- the set of the numbers below n that pass a test, and the members of u that w does not have
unfoldable pub set_of : (ℕ → Bool) → ℕ → ℕ
set_of p zero = 0
set_of p (suc n) = set_of p n + cond (p n) (2 ^ n) 0

unfoldable pub less : ℕ → ℕ → ℕ
less u w = set_of (λ i. has u i && not (has w i)) 16

-- the least of k numbers from i on that passes a test, i + k where none does; a set's lowest member below n, else n
unfoldable pub least_from : (ℕ → Bool) → ℕ → ℕ → ℕ
least_from p i zero = i
least_from p i (suc k) = let later = least_from p (suc i) k in cond (p i) i later

unfoldable pub lowest : ℕ → ℕ → ℕ
lowest w n = least_from (has w) 0 n
