-- The most settling steps that one message has before it, whatever its sets hold: each step on it takes one away.
use mathlib.Core.Path.{◌≡◌, refl, ap}
use mathlib.Core.Bool.{Bool, true, false, cond, not, ◌&&◌}
use Prim.Native.Nat.{ℕ, ◌+◌, ◌*◌, ◌≤◌, ◌<◌}
use native.Mathlib.Nat.{mul-add, mul_assoc, mul-one}
use native.Mathlib.Omega.{arith}
use lib.Dec.{eqb, ltb}
use Rattle.laws.proofs.Sets.{RecordSets, cell, new_record, after_send, after_receive, after_deliver, after_lose}
use Rattle.laws.proofs.Cells.{on_one, on_cell}
use Rattle.laws.proofs.Sums.{sum, sum_most, sum_drop}

pub at_most : (k : ℕ) (t : Bool) → cond t k 0 ≤ k
at_most k true = omega arith
at_most k false = omega arith

-- ---- one copy

-- two steps where it is unsent, one where it is in flight, and two where its sender does not hold the message: it may
-- come to hold it and must then send it. In an opened group at most one of the three is so, in a spoilt bank all may be
abbrev weight : (held unsent in_flight : Bool) → ℕ
weight held unsent in_flight = cond (not held) 2 0 + cond unsent 2 0 + cond in_flight 1 0

weight_most : (h x f : Bool) → weight h x f ≤ 5
weight_most h x f = omega (arith, at_most 2 (not h), at_most 2 x, at_most 1 f)

weight_new : (e l : Bool) → weight e (e && l) false ≤ 2
weight_new true l = omega (arith, at_most 2 l)
weight_new false l = omega arith

-- who begins to hold the message has no more before it than before
weight_held : (e h l x f : Bool) → weight (cond e true h) (cond (e && (not h && l)) true x) f ≤ weight h x f
weight_held false h l x f = omega arith
weight_held true true l x f = omega arith
weight_held true false l x f = omega (arith, at_most 2 (cond l true x))

-- ---- one record

abbrev weight_of : RecordSets → ℕ → ℕ → ℕ
weight_of r a b = weight (r.held a) (r.unsent a b) (r.in_flight b a)

-- the copies that controller a sends, and its delivery
todo : ℕ → RecordSets → ℕ → ℕ
todo n r a = sum (weight_of r a) n + cond (not (r.delivered a)) 1 0

pub record_work : ℕ → RecordSets → ℕ
record_work n r = sum (todo n r) n

-- a message among n, with q steps for each copy and one for each delivery
unfoldable pub per : ℕ → ℕ → ℕ
per q n = q * (n * n) + n

record_most : (q n : ℕ) (r : RecordSets) → ((a b : ℕ) → weight_of r a b ≤ q) → record_work n r ≤ per q n
unfolding record_work todo per
record_most q n r h =
    let whole : sum (todo n r) n ≤ n * (n * q + 1) = sum_most (todo n r) n (n * q + 1) (λ a _. row a) in
    omega (arith, rw (mul-add, ← mul_assoc n n q, mul-one) at whole)
  where
    row : (a : ℕ) → todo n r a ≤ n * q + 1
    row a = omega (arith, sum_most (weight_of r a) n q (λ b _. h a b), at_most 1 (not (r.delivered a)))

pub any_work : (n : ℕ) (r : RecordSets) → record_work n r ≤ per 5 n
any_work n r = record_most 5 n r (λ a b. weight_most (r.held a) (r.unsent a b) (r.in_flight b a))

-- what a message adds that is broadcast
pub new_work : (n who : ℕ) → record_work n (new_record n who) ≤ per 2 n
new_work n who = record_most 2 n (new_record n who) (λ a b. weight_new (eqb who a) (ltb b n))

-- ---- one step

-- one copy has one step less before it, and no other has more
one_copy : (n : ℕ) (r r' : RecordSets) (i j : ℕ) → i < n → j < n
    → ((a : ℕ) → r.delivered a ≡ r'.delivered a)
    → ((a b : ℕ) → weight_of r' a b + cond (cell i j a b) 1 0 ≤ weight_of r a b)
    → record_work n r' + 1 ≤ record_work n r
unfolding record_work todo
one_copy n r r' i j k l same h =
    sum_drop true (todo n r') (todo n r) n i k
    (λ a _.
    omega (
      arith,
      sum_drop (eqb i a) (weight_of r' a) (weight_of r a) n j l (λ b _. h a b),
      ap {B = ℕ} (λ d. cond (not d) 1 0) (same a),
    ))

module _ (n : ℕ) (r : RecordSets) where
  pub send_work : (from to : ℕ) → from < n → to < n → r.unsent from to ≡ true
      → record_work n (after_send from to r) + 1 ≤ record_work n r
  send_work from to k l e =
      one_copy n r (after_send from to r) from to k l (λ a. refl)
      (on_cell from to
      (λ a b t u.
      weight (r.held a) (cond t false (r.unsent a b)) (cond u true (r.in_flight b a)) + cond t 1 0 ≤ weight_of r a b)
      (rw e (omega arith))
      (λ a b. omega arith))

  pub lose_work : (from to : ℕ) → from < n → to < n → r.in_flight to from ≡ true
      → record_work n (after_lose from to r) + 1 ≤ record_work n r
  lose_work from to k l e =
      one_copy n r (after_lose from to r) from to k l (λ a. refl)
      (on_cell from to
      (λ a b t u.
      weight (r.held a) (r.unsent a b) (cond u false (r.in_flight b a)) + cond t 1 0 ≤ weight_of r a b)
      (rw e (omega arith))
      (λ a b. omega arith))

  pub receive_work : (i from : ℕ) → i < n → from < n → r.in_flight i from ≡ true
      → record_work n (after_receive n i from r) + 1 ≤ record_work n r
  receive_work i from k l e =
      one_copy n r (after_receive n i from r) from i l k (λ a. refl)
      (on_cell from i
      (λ a b t u. weight (held' a) (unsent' a b) (cond u false (r.in_flight b a)) + cond t 1 0 ≤ weight_of r a b)
      (rw e (omega (arith, holds from i)))
      (λ a b. omega (arith, holds a b)))
    where
      held' : ℕ → Bool
      held' = (after_receive n i from r).held

      unsent' : ℕ → ℕ → Bool
      unsent' = (after_receive n i from r).unsent

      holds : (a b : ℕ) → weight (held' a) (unsent' a b) (r.in_flight b a) ≤ weight_of r a b
      holds a b = weight_held (eqb i a) (r.held a) (ltb b n) (r.unsent a b) (r.in_flight b a)

  pub deliver_work : (i : ℕ) → i < n → r.delivered i ≡ false → record_work n (after_deliver i r) + 1 ≤ record_work n r
  unfolding record_work todo
  deliver_work i l e =
      sum_drop true (todo n (after_deliver i r)) (todo n r) n i l
      (λ a _.
      on_one i (λ a t. sum (weight_of r a) n + cond (not (cond t true (r.delivered a))) 1 0 + cond t 1 0 ≤ todo n r a)
      (rw e (omega arith))
      (λ a _. omega arith)
      a)
