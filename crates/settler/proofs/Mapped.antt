-- What the search's chains come to: `or_else` to the first answer of joined lists, and `find_map` over a range to the
-- first answer by the numbers, where a call leaves the closure as it was; so over rows of candidates to the first row's
-- answer.
use mathlib.Core.Path.{◌≡◌, refl, sym, ap, subst, ◌∙◌}
use mathlib.Core.Bool.{Bool, true}
use mathlib.Core.List.{List, ◌++◌}
use mathlib.Core.Option.{Option, none, some}
use Prim.Native.Nat.{ℕ, zero, suc, ◌+◌, ◌≤◌, ◌<◌}
use native.Mathlib.Numerals.{add-one}
use native.Mathlib.Omega.{arith}
use denote.Param.Members.{Mut}
use Rattle.std.specs.Prelude as code
use Rattle.std.specs.Prelude.{Some, None, MatchOption, IfSome, IsSomeAnd}
use Rattle.std.specs.Option.{option_map, option_or}
use Rattle.std.specs.Fn.{Called}
use Rattle.std.specs.Iterator.Runs.{SomeRun, Run, AllItemsGive, IsFirstToGive}
use Rattle.std.proofs.iter.Yields.{nat_range_steps}
use Rattle.std.proofs.iter.runs.Sources.{range_runs}
use Rattle.bank.specs.Place.{N, count}
use Rattle.bank.specs.Layout.{Layout, words}
use Rattle.refusals.specs.Step.{Step, detect}
use Rattle.settler.specs.Candidates.{below, each, pairs, of_message, candidates, first_of, free, next}
use Rattle.settler.specs.Handed.{next_of}
use Rattle.refusals.specs.declared.step.Step.{Step as Taken}
use Rattle.settler.proofs.First.{or_else, first_append, rest, rest_begins, rest_found, rest_more, rest_ends}
use Rattle.settler.proofs.Taking.{quiet_none, take-some}

-- ---- numbers

-- r is what h gives at the first number below n at which it gives anything, or None
abbrev pub FirstGiven : {B : Type 0} → (ℕ → code.Option B) → ℕ → code.Option B → Type 0
FirstGiven h n r =
    MatchOption r ((k : ℕ) → k < n → h k ≡ None)
    (λ y. (i : ℕ) × (i < n) × (h i ≡ Some y) × ((k : ℕ) → k < i → h k ≡ None))

if_at : (P : ℕ → Type 0) (o : code.Option ℕ) (k : ℕ) → option_map (λ y. y) o ≡ Some k → IfSome o P → P k
if_at P (Some x) k e h = let q : x ≡ k = cc in subst P q h
if_at P None k e h = cc

at_is : (P : ℕ → Type 0) (o : code.Option ℕ) (k : ℕ) → option_map (λ y. y) o ≡ Some k → IsSomeAnd o P → P k
at_is P (Some x) k e h = let q : x ≡ k = cc in subst P q h
at_is P None k e h = cc

-- the item at each place of a run over a range from 0 is the place
place : (n : ℕ) (p : Run nat_range_steps) → p.from ≡ record { start = 0; end = n } → (j : ℕ) → j < p.len
    → option_map (λ y. y) (p.at j) ≡ Some j
place n p e j l =
    let q : p.from.start + j ≡ j = omega (arith, ap (λ s. s.start) e) in (range_runs p p.seen).3 j l ∙ ap Some q

-- what find_map says of its run over a range from 0
abbrev pub Mapped : {F B : Type 0} → Mut F (ℕ × Unit {0}) (code.Option B) → F → ℕ → code.Option B → Type 0
Mapped g f n r =
    SomeRun nat_range_steps (record { start = 0; end = n })
    (λ p. MatchOption r ((p.whole ≡ true) × AllItemsGive p g f None)
    (λ y. (i : ℕ) × (i < p.len) × (p.len ≡ i + 1) × IsFirstToGive p g f (Some y) None i))

-- each call gives what h does, and leaves the closure as it was
abbrev pub Computes : {F B : Type 0} → Mut F (ℕ × Unit {0}) (code.Option B) → F → ℕ → (ℕ → code.Option B) → Type 0
Computes {F = F} {B = B} g f n h =
    (i : ℕ) (a : code.Option B) (q : F) → Called g f (i, tt) a q → (q ≡ f) × (i < n → a ≡ h i)

pub first_mapped : {F B : Type 0} {g : Mut F (ℕ × Unit {0}) (code.Option B)} {f : F} (n : ℕ) (h : ℕ → code.Option B)
    (r : code.Option B) → Mapped g f n r → Computes g f n h → FirstGiven h n r
first_mapped {g = g} {f} n h None d k =
    let p = d.0 in
    let all = d.2.1 (λ a b q c. (k a.0 b q c).0) in
    λ j l.
    let long = (range_runs p p.seen).1 d.2.0 in
    let at = place n p d.1 j (omega (arith, long, ap (λ s. s.start) d.1, ap (λ s. s.end) d.1)) in
    sym ((k j None f (if_at (λ x. Called g f (x, tt) None f) (p.at j) j at (all j))).1 l)
first_mapped {g = g} {f} n h (Some y) d k =
    let p = d.0 in
    let i = d.2.0 in
    let first = d.2.3 (λ a b q c. (k a.0 b q c).0) in
    let here : i < n = omega (arith, d.2.1, (range_runs p p.seen).0, ap (λ s. s.start) d.1, ap (λ s. s.end) d.1) in
    let hit = at_is (λ x. Called g f (x, tt) (Some y) f) (p.at i) i (place n p d.1 i d.2.1) first.0 in (
      i,
      here,
      sym ((k i (Some y) f hit).1 here),
      λ j l.
          let at = place n p d.1 j (omega (arith, d.2.1)) in
          let miss = at_is (λ x. Called g f (x, tt) None f) (p.at j) j at (first.1 j l) in
          sym ((k j None f miss).1 (omega (arith, l, here))),
    )

-- ---- the lists of candidates

-- of joined lists the first answer is the first list's, where it has one, else the second's
pub next_joined : (p : Step → Bool) (xs ys : List Step)
    → next_of (first_of p (xs ++ ys)) ≡ option_or (next_of (first_of p xs)) (next_of (first_of p ys))
next_joined p xs ys = rw first_append (go (first_of p xs))
  where
    go : (o : Option Step) → next_of (or_else o (first_of p ys)) ≡ option_or (next_of o) (next_of (first_of p ys))
    go none = refl
    go (some s) = refl

-- detects first, then the messages in turn
pub next_split : (L : Layout) (b : List ℕ) → next_of (next L b)
    ≡ option_or (next_of (first_of (free L b) (pairs (words L b N) detect)))
    (next_of (first_of (free L b) (each (of_message (words L b N)) (below (words L b count)))))
unfolding next candidates
next_split L b = next_joined (free L b) (pairs (words L b N) detect) _

-- the first row that has an answer gives it
module _ (p : Step → Bool) (f : ℕ → List Step) (n : ℕ) where
  none_before : (i : ℕ) → i ≤ n → ((k : ℕ) → k < i → next_of (first_of p (f k)) ≡ None)
      → first_of p (each f (below n)) ≡ rest p f n i
  none_before zero l h = rest_begins p f n
  none_before (suc i) l h =
      none_before i (omega arith) (λ k g. h k (omega arith))
      ∙ (rw add-one at (rest_more p f n i (omega arith) (quiet_none _ (sym (h i (omega arith))))))

  pub first_row : (r : code.Option Taken) → FirstGiven (λ i. next_of (first_of p (f i))) n r
      → r ≡ next_of (first_of p (each f (below n)))
  first_row None h = ap next_of (sym (none_before n (omega arith) h ∙ rest_ends p f n n (omega arith)))
  first_row (Some m) (i, l, e, h) =
      let t = take-some (first_of p (f i)) m (sym e) in
      sym e ∙ ap next_of (t.1 ∙ sym (none_before i (omega arith) h ∙ rest_found p f n i t.0 l t.1))

  -- so what find_map gives by a closure that gives each row's answer
  pub rows_mapped : {F : Type 0} {g : Mut F (ℕ × Unit {0}) (code.Option Taken)} {q : F} {r : code.Option Taken}
      → Mapped g q n r → Computes g q n (λ i. next_of (first_of p (f i))) → r ≡ next_of (first_of p (each f (below n)))
  rows_mapped {r = r} d k = first_row r (first_mapped n (λ i. next_of (first_of p (f i))) r d k)
