-- What the code's bit operations make of a word of sixteen bits, where an index or a bound may be larger.
use Rattle.std.specs.Prelude.{Option, Some, None}
use Rattle.std.specs.Option.{SomeIff, unwrap_or}
use Rattle.std.proofs.lemmas.Nat.{and-not, and_comm}
use mathlib.Core.Path.{◌≡◌, refl, sym, ap, fun_ext, ◌∙◌}
use mathlib.Core.Logic.{◌⊎◌, inl, inr, ⊎_elim}
use mathlib.Core.Bool.{Bool, true, false, not, ◌&&◌, ◌||◌, not-not}
use Prim.Native.Nat.{ℕ, ◌-◌, ◌*◌, ◌%◌, ◌^◌, ◌≤◌, ◌<◌, min}
use native.Mathlib.Nat.{le_of_lt, lt_of_lt_of_le, min-eq_left, min-eq_right, mod-eq_of_lt, one-mul, sub-zero}
use native.Mathlib.Omega.{arith}
use lib.Dec.{eqb, lit<, ltb}
use lib.Pow.{pow_mono, shl_exact}
use lib.Bits.{bit_and, bit_or, and_zero_r, or_zero_r}
use borrow.Author.Tests.{ltb-true, ltb-false}
use Rattle.sets.specs.Set.{has, without, all_below, cut, every, within, join}
use Rattle.sets.proofs.Digits.{has-less, with-or, without-less, cut-and}
use Rattle.sets.proofs.Members.{has-outside, join-with, join-outside}
use Rattle.sets.proofs.Counts.{cut-none}

lt_or_ge : (i n : ℕ) → (i < n) ⊎ (n ≤ i)
lt_or_ge i n = go (ltb i n) refl
  where
    go : (t : Bool) → ltb i n ≡ t → (i < n) ⊎ (n ≤ i)
    go true e = inl (ltb-true i n e)
    go false e = inr (ltb-false i n e)

pub has_none_above : (w i : ℕ) → w < 2 ^ 16 → 16 ≤ i → has w i ≡ false
has_none_above w i h l = has-outside w 16 i h l

pub shl_one : (i : ℕ) → i < 16 → (1 * 2 ^ i) % 2 ^ 16 ≡ 2 ^ i
shl_one i h = shl_exact 1 i 16 (lit< tt) (omega arith) ∙ one-mul (2 ^ i)

pub join_bit : (i : ℕ) → i < 16 → join 0 i ≡ 2 ^ i
join_bit i l = join-with 0 i l ∙ with-or 0 i

-- where there is no such bit the shift is not given
pub checked_bit : (i : ℕ) (b : Option ℕ) → SomeIff b (i < 16) ((1 * 2 ^ i) % 2 ^ 16) → unwrap_or b 0 ≡ join 0 i
checked_bit i None h = sym (join-outside 0 i (omega (arith, h)))
checked_bit i (Some b) h = h.1 ∙ shl_one i h.0 ∙ sym (join_bit i h.0)

pub or-join : (w i : ℕ) → bit_or w (join 0 i) ≡ join w i
or-join w i =
    ⊎_elim (λ l. rw (join_bit i l, join-with w i l) (sym (with-or w i)))
    (λ l. rw (join-outside 0 i l, join-outside w i l) (or_zero_r w))
    (lt_or_ge i 16)

-- the complement of w takes from u what u has of w
pub and_off : (u w : ℕ) → u < 2 ^ 16 → w < 2 ^ 16 → bit_and u (65535 - w) ≡ u - bit_and u w
and_off u w h l = omega (arith, and-not 16 w u l h, and_comm u (65535 - w), and_comm u w)

pub less_join : (w i : ℕ) → w < 2 ^ 16 → w - bit_and w (join 0 i) ≡ without w i
unfolding without
less_join w i h =
    ⊎_elim (λ l. rw (join_bit i l) (sym (without-less w i)))
    (λ l. rw (join-outside 0 i l, and_zero_r, has-outside w 16 i h l) (sub-zero w))
    (lt_or_ge i 16)

pub and-all_below : (w n : ℕ) → w < 2 ^ 16 → bit_and w (all_below (min n 16)) ≡ cut w n
unfolding cut
and-all_below w n h =
    sym (cut-and w (min n 16))
    ∙ ⊎_elim (λ l. ap (cut w) (min-eq_left (le_of_lt l)))
    (λ l. ap (cut w) (min-eq_right l) ∙ mod-eq_of_lt h ∙ sym (mod-eq_of_lt (lt_of_lt_of_le h (pow_mono l))))
    (lt_or_ge n 16)

-- u has no member below n that w lacks
pub less_none : (u w n : ℕ) → eqb (cut (u - bit_and u w) n) 0 ≡ within u w n
unfolding within
less_none u w n =
    cut-none (u - bit_and u w) n
    ∙ ap (λ p. every p n) (fun_ext (λ i. ap not (has-less u w i) ∙ lacks_none (has u i) (has w i)))
  where
    lacks_none : (s t : Bool) → not (s && not t) ≡ (not s || t)
    lacks_none true t = not-not t
    lacks_none false t = refl
