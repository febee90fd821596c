-- Lists of rules: 0 is given back just where every rule holds, and a list may be tested part by part.
use mathlib.Core.Path.{◌≡◌, refl, sym, subst}
use mathlib.Core.Bool.{Bool, true, false, cond, not, ◌&&◌}
use mathlib.Core.List.{List, [], ◌∷◌, ◌++◌}
use Prim.Native.Nat.{ℕ, ◌<◌}
use native.Mathlib.Omega.{arith}
use lib.Dec.{T, T_not, ltb, ltb→lt, eqb}
use borrow.Author.Tests.{eq-eqb}
use Rattle.bank.specs.Rules.{Rule, first_broken, Holds}

-- ---- a choice by a test

module _ {A : Type 0} where
  pub pass : {t : Bool} {r x : A} (k : A) → t ≡ true → r ≡ x → cond t r k ≡ x
  pass {r = r} {x = x} k e h = subst (λ u. cond u r k ≡ x) (sym e) h

  pub stop : {t : Bool} {k x : A} (r : A) → t ≡ false → k ≡ x → cond t r k ≡ x
  stop {k = k} {x = x} r e h = subst (λ u. cond u r k ≡ x) (sym e) h

-- ---- a list of rules

-- a number that a rule may give: not 0, which says that all hold, and not 13, which a ragged list gives
abbrev pub of_rule : ℕ → Bool
of_rule n = ltb 0 n && not (eqb n 13)

abbrev pub Numbered : List Rule → Type 0
Numbered [] = Unit {0}
Numbered (r ∷ rs) = T (of_rule r.number) × Numbered rs

parts : (s t : Bool) → T (s && t) → T s × T t
parts true t h = (tt, h)
parts false t h = absurd h

pub not_zero : (n : ℕ) → T (of_rule n) → 0 < n
not_zero n h = ltb→lt 0 n (parts (ltb 0 n) (not (eqb n 13)) h).0

not_ragged : (n : ℕ) → T (of_rule n) → n ≡ 13 → ⊥
not_ragged n h e = T_not (eqb n 13) (parts (ltb 0 n) (not (eqb n 13)) h).1 (subst T (sym (eq-eqb n 13 e)) tt)

pub all_hold : (rs : List Rule) → Numbered rs → first_broken rs ≡ 0 → Holds rs
all_hold [] k e = tt
all_hold (r ∷ rs) k e = go r.holds refl e (all_hold rs k.1)
  where
    go : (t : Bool) → r.holds ≡ t → cond t (first_broken rs) r.number ≡ 0
        → (first_broken rs ≡ 0 → Holds rs) → (r.holds ≡ true) × Holds rs
    go true q z h = (q, h z)
    go false q z h = absurd (omega (arith, not_zero r.number k.0))

pub none_broken : (rs : List Rule) → Holds rs → first_broken rs ≡ 0
none_broken [] h = refl
none_broken (r ∷ rs) h = pass r.number h.0 (none_broken rs h.1)

pub never_ragged : (rs : List Rule) → Numbered rs → first_broken rs ≡ 13 → ⊥
never_ragged [] k = omega arith
never_ragged (r ∷ rs) k = go r.holds (never_ragged rs k.1)
  where
    go : (t : Bool) → (first_broken rs ≡ 13 → ⊥) → cond t (first_broken rs) r.number ≡ 13 → ⊥
    go true h = h
    go false h = not_ragged r.number k.0

-- a first part that breaks decides; one that does not leaves it to the rest
pub first_decides : (rs ss : List Rule) → (first_broken rs ≡ 0 → ⊥) → first_broken (rs ++ ss) ≡ first_broken rs
first_decides [] ss h = absurd (h refl)
first_decides (r ∷ rs) ss h = go r.holds refl (first_decides rs ss)
  where
    go : (t : Bool) → r.holds ≡ t → ((first_broken rs ≡ 0 → ⊥) → first_broken (rs ++ ss) ≡ first_broken rs)
        → cond t (first_broken (rs ++ ss)) r.number ≡ cond t (first_broken rs) r.number
    go true q k = k (λ z. h (pass r.number q z))
    go false q k = refl

pub rest_decides : (rs ss : List Rule) → Numbered rs → first_broken rs ≡ 0 → first_broken (rs ++ ss) ≡ first_broken ss
rest_decides rs ss k e = go rs (all_hold rs k e)
  where
    go : (rs : List Rule) → Holds rs → first_broken (rs ++ ss) ≡ first_broken ss
    go [] h = refl
    go (r ∷ rs) h = pass r.number h.0 (go rs h.1)
