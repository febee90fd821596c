-- "The lowest number that applies is given": the numbers of a step's rules rise, but for the 1 of a full log, the last.
use mathlib.Core.Path.{◌≡◌, refl, sym, ap, ◌∙◌}
use mathlib.Core.Bool.{Bool, true, false, cond, not, ◌&&◌, ◌||◌, true≢false, false≢true}
use mathlib.Core.Logic.{◌⊎◌, inl, inr, ⊎_elim}
use mathlib.Core.List.{List, [], ◌∷◌}
use mathlib.Core.List.Memᴰ
use mathlib.Core.List.{Memᴰ}
use Prim.Native.Nat.{ℕ, ◌≤◌}
use native.Mathlib.Decide.{ℕ_discrete}
use native.Mathlib.Omega.{arith}
use lib.Dec.{leb, eqb}
use borrow.Author.Tests.{leb-true, eqb-true, eq-eqb}
use Rattle.sets.proofs.Tests.{both}
use Rattle.bank.specs.Layout.{Layout, words}
use Rattle.refusals.specs.Step.{Step, broadcast, send, receive, deliver, crash, detect, lose}
use Rattle.bank.specs.Rules.{Rule, first_broken, Holds, LowestGiven}
use Rattle.refusals.specs.Refusals.{rules}
use Rattle.bank.proofs.Rules.{all_hold}
use Rattle.refusals.proofs.StepRules.{rules_numbered}

-- m goes before n: n is 1, or m is not 1 and no higher than n
abbrev Before : ℕ → ℕ → Type 0
Before m n = (n ≡ 1) ⊎ ((m ≡ 1 → ⊥) × (m ≤ n))

before : ℕ → ℕ → Bool
before m n = eqb n 1 || (not (eqb m 1) && leb m n)

before_says : (m n : ℕ) → before m n ≡ true → Before m n
unfolding before
before_says m n = go (eqb n 1) refl
  where
    go : (t : Bool) → eqb n 1 ≡ t → (t || (not (eqb m 1) && leb m n)) ≡ true → Before m n
    go true q h = inl (eqb-true n 1 q)
    go false q h =
        let p = both _ _ h in inr (λ e. false≢true (sym (ap not (eq-eqb m 1 e)) ∙ p.0), leb-true m n p.1)

before_itself : (n : ℕ) → Before n n
before_itself n = go (ℕ_discrete n 1)
  where
    go : Dec (n ≡ 1) → Before n n
    go (yes e) = inl e
    go (no d) = inr (d, omega arith)

-- ---- a step's rules: each goes before all that come after it

abbrev from_on : ℕ → List Rule → Bool
from_on n [] = true
from_on n (r ∷ rs) = before n r.number && from_on n rs

abbrev rising : List Rule → Bool
rising [] = true
rising (r ∷ rs) = from_on r.number rs && rising rs

rules_rise : (L : Layout) (b : List ℕ) (s : Step) → rising (rules L (words L b) s) ≡ true
unfolding before
rules_rise L b (broadcast who s v) = refl
rules_rise L b (send from to m) = refl
rules_rise L b (receive i from m) = refl
rules_rise L b (deliver i m) = refl
rules_rise L b (crash who) = refl
rules_rise L b (detect i j) = refl
rules_rise L b (lose from to m) = refl

later_rule : (n : ℕ) (rs : List Rule) → from_on n rs ≡ true → (r : Rule) → Memᴰ r rs → Before n r.number
later_rule n [] e r m = absurd (Memᴰ.not-nil m)
later_rule n (s ∷ rs) e r m =
    let p = both (before n s.number) (from_on n rs) e in
    ⊎_elim (λ q. rw q (before_says n s.number p.0)) (later_rule n rs p.1 r) (Memᴰ.cases_cons m)

-- ---- the first that is broken, and any other that is

first_before : (rs : List Rule) → rising rs ≡ true → (r : Rule) → Memᴰ r rs → r.holds ≡ false
    → Before (first_broken rs) r.number
first_before [] e r m h = absurd (Memᴰ.not-nil m)
first_before (s ∷ rs) e r m h =
    let p = both (from_on s.number rs) (rising rs) e in
    go s.holds refl (Memᴰ.cases_cons m) (later_rule s.number rs p.0 r) (λ k. first_before rs p.1 r k h)
  where
    go : (t : Bool) → s.holds ≡ t → (r ≡ s) ⊎ Memᴰ r rs → (Memᴰ r rs → Before s.number r.number)
        → (Memᴰ r rs → Before (first_broken rs) r.number)
        → Before (cond t (first_broken rs) s.number) r.number
    go true q (inl x) f g = absurd (true≢false (sym q ∙ ap (λ y. y.holds) (sym x) ∙ h))
    go true q (inr k) f g = g k
    go false q (inl x) f g = rw x (before_itself s.number)
    go false q (inr k) f g = f k

-- ---- where something applies, and where nothing does

abbrev Given : ℕ → List Rule → Type 0
Given n rs = (r : Rule) × Memᴰ r rs × (r.holds ≡ false) × (r.number ≡ n)

first_given : (rs : List Rule) → (first_broken rs ≡ 0 → ⊥) → Given (first_broken rs) rs
first_given [] d = absurd (d refl)
first_given (s ∷ rs) d = go s.holds refl d (first_given rs)
  where
    go : (t : Bool) → s.holds ≡ t → (cond t (first_broken rs) s.number ≡ 0 → ⊥)
        → ((first_broken rs ≡ 0 → ⊥) → Given (first_broken rs) rs)
        → Given (cond t (first_broken rs) s.number) (s ∷ rs)
    go true q d f = let (r, m, h, e) = f d in (r, Memᴰ.tail m, h, e)
    go false q d f = (s, Memᴰ.head refl, q, refl)

holds_at : (rs : List Rule) → Holds rs → (r : Rule) → Memᴰ r rs → r.holds ≡ true
holds_at [] h r m = absurd (Memᴰ.not-nil m)
holds_at (s ∷ rs) h r m = ⊎_elim (λ q. rw q h.0) (holds_at rs h.1 r) (Memᴰ.cases_cons m)

pub lowest-given : (L : Layout) (b : List ℕ) (s : Step) → LowestGiven (rules L (words L b) s)
lowest-given L b s =
    let rs : List Rule = rules L (words L b) s in
    let rise = rules_rise L b s in
    record {
      none = λ z. holds_at rs (all_hold rs (rules_numbered L b s) z);
      one = first_given rs;
      lowest = λ r m h d. ⊎_elim (λ e. absurd (d e)) (λ p. p.1) (first_before rs rise r m h);
      last = λ z r m h. ⊎_elim (λ e. e) (λ p. absurd (p.0 z)) (first_before rs rise r m h);
    }
