-- How much is enough: the bounds on settling rise with the controllers and the messages, up to those of a full bank.
use Prim.Native.Nat.{ℕ, ◌-◌, ◌*◌, ◌≤◌}
use mathlib.Core.Path.{◌≡◌, refl}
use native.Mathlib.Nat.{mul-le-mul}
use native.Mathlib.Omega.{arith}
use Rattle.laws.specs.Runs.{most, most_of_any}

-- so many steps for each copy of each message, one for each delivery, one for each detect: each part rises
parts_rise : {n n' c c' : ℕ} → n ≤ n' → c ≤ c'
    → (n * n * c ≤ n' * n' * c') × (n * c ≤ n' * c') × (n * (n - 1) ≤ n' * (n' - 1))
parts_rise {n} {n'} l k =
    let below : n - 1 ≤ n' - 1 = omega arith in
    (mul-le-mul (mul-le-mul l l) k, mul-le-mul l k, mul-le-mul l below)

pub most-rises : {n n' c c' : ℕ} → n ≤ n' → c ≤ c' → most n c ≤ most n' c'
unfolding most
most-rises l k = omega (arith, parts_rise l k)

pub any-rises : {n n' c c' : ℕ} → n ≤ n' → c ≤ c' → most_of_any n c ≤ most_of_any n' c'
unfolding most_of_any
any-rises l k = omega (arith, parts_rise l k)

-- ---- at the paper's size

-- "that is 17,136 for N = 16 and c = 32"
pub full_bank : most 16 32 ≡ 17136
unfolding most
full_bank = refl

pub most-below : (n c : ℕ) → n ≤ 16 → c ≤ 32 → most n c ≤ 17136
most-below n c l k = omega (arith, full_bank, most-rises l k)

pub any_full_bank : most_of_any 16 32 ≡ 41712
unfolding most_of_any
any_full_bank = refl
