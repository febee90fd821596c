-- A list of steps, one step at a time: how the answer from here on goes over the next four words.
use mathlib.Core.Path.{◌≡◌, refl, sym, ap, ap₂, ◌∙◌}
use mathlib.Core.Bool.{Bool, true, false, cond}
use mathlib.Core.List.{List, [], ◌∷◌}
use Prim.Native.Nat.{ℕ, zero, suc, ◌+◌, ◌*◌, ◌/◌, ◌%◌, ◌≤◌, ◌<◌}
use native.Mathlib.Omega.{arith}
use native.Mathlib.Numerals.{unary_clauses}
use lib.Dec.{eqb}
use lib.ListN.{length, get_or, drop, drop_of_length-le}
use Rattle.std.specs.Simd.{first_chunks}
use borrow.Author.Tests.{eq-eqb, ne_eqb}
use Rattle.bank.specs.Layout.{Layout}
use Rattle.bank.specs.Fit.{fit}
use Rattle.refusals.specs.Step.{Asked, ask}
use Rattle.refusals.specs.Promises.{refusal_of}
use Rattle.group.specs.Promises.{step_of, StepPromise}
use Rattle.lists.specs.Lists.{Outcome, outcome, run_from, run_of}
use Rattle.bank.proofs.Rules.{pass, stop}
use Rattle.group.proofs.Kept.{refused_leaves}

-- the numbers of a step's four words
abbrev pub asked_by : List ℕ → Asked
asked_by c = ask (get_or c 0 0) (get_or c 1 0) (get_or c 2 0) (get_or c 3 0)

-- the step of the next four words gave back r and left the bank b': it ends the list, or the list goes on after them
module _ (L : Layout) (n : ℕ) (b : List ℕ) (kind x y z : ℕ) (rest : List ℕ) (r : ℕ) (b' : List ℕ)
    (p : StepPromise L b (ask kind x y z) r b') where
  number : r ≡ refusal_of L b (ask kind x y z)
  unfolding step_of
  number = ap (λ a. a.refusal) p

  pub run_stop : (r ≡ 0 → ⊥) → run_from L n b (kind ∷ x ∷ y ∷ z ∷ rest) ≡ outcome n r b'
  unfolding run_from
  run_stop h =
      stop _ (ne_eqb _ _ (λ q. h (number ∙ q)))
      (sym (ap₂ (outcome n) number
      (ap (λ a. a.bank) p ∙ refused_leaves L b (ask kind x y z) (λ q. h (ap (λ a. a.refusal) p ∙ q)))))

  pub run_more : r ≡ 0 → run_from L n b (kind ∷ x ∷ y ∷ z ∷ rest) ≡ run_from L (n + 1) b' rest
  unfolding run_from
  run_more h =
      pass _ (eq-eqb _ _ (sym number ∙ h)) (ap (λ c. run_from L (n + 1) c rest) (sym (ap (λ a. a.bank) p)))

abbrev then : List ℕ → List ℕ → List ℕ
then c rest = get_or c 0 0 ∷ get_or c 1 0 ∷ get_or c 2 0 ∷ get_or c 3 0 ∷ rest

-- the words from a step on are that step's four and those after it
next_step : (s : List ℕ) (k n : ℕ) → n < k → 4 * k ≤ length s
    → drop (4 * n) s ≡ then (get_or (first_chunks 4 k s) n []) (drop (4 * (n + 1)) s)
next_step (w ∷ x ∷ y ∷ z ∷ s) (suc k) zero h l = refl
next_step (w ∷ x ∷ y ∷ z ∷ s) (suc k) (suc n) h l =
    simp unary_clauses (simp unary_clauses at (next_step s k n (omega arith) (omega arith)))
next_step s zero n h l = absurd (omega arith)
next_step [] (suc k) n h l = absurd (omega arith)
next_step (w ∷ []) (suc k) n h l = absurd (omega arith)
next_step (w ∷ x ∷ []) (suc k) n h l = absurd (omega arith)
next_step (w ∷ x ∷ y ∷ []) (suc k) n h l = absurd (omega arith)

-- the same of step n of a list that is cut into steps
module _ (L : Layout) (n : ℕ) (b s : List ℕ) {cs : List (List ℕ)} (r : ℕ) (b' : List ℕ)
    (e : cs ≡ first_chunks 4 (length s / 4) s) (p : StepPromise L b (asked_by (get_or cs n [])) r b')
    (h : n < length s / 4) where
  cut : drop (4 * n) s ≡ then (get_or cs n []) (drop (4 * (n + 1)) s)
  cut = rw e (next_step s (length s / 4) n h (omega arith))

  pub list_stop : (r ≡ 0 → ⊥) → run_from L n b (drop (4 * n) s) ≡ outcome n r b'
  list_stop z = ap (run_from L n b) cut ∙ run_stop L n b _ _ _ _ _ r b' p z

  pub list_more : r ≡ 0 → run_from L n b (drop (4 * n) s) ≡ run_from L (n + 1) b' (drop (4 * (n + 1)) s)
  list_more z = ap (run_from L n b) cut ∙ run_more L n b _ _ _ _ _ r b' p z

pub run_end : (L : Layout) (n : ℕ) (b s : List ℕ) (i : ℕ) → length s ≤ i → run_from L n b (drop i s) ≡ outcome n 0 b
unfolding run_from
run_end L n b s i h = ap (run_from L n b) (drop_of_length-le s h)

module _ (L : Layout) (b s : List ℕ) where
  pub run_begins : fit L b ≡ true → length s % 4 ≡ 0 → run_of L b s ≡ run_from L 0 b s
  unfolding run_of
  run_begins f e = pass _ f (pass _ (eq-eqb _ _ e) refl)

  pub run_unfit : fit L b ≡ false → run_of L b s ≡ outcome 0 1 b
  unfolding run_of
  run_unfit f = stop _ f refl

  pub run_ragged : fit L b ≡ true → (length s % 4 ≡ 0 → ⊥) → run_of L b s ≡ outcome 0 13 b
  unfolding run_of
  run_ragged f e = pass _ f (stop _ (ne_eqb _ _ e) refl)

-- what run goes by, but for the step that ends a list
pub ruleset step_by_step = (run_unfit, run_ragged, run_begins, list_more, run_end)

-- ---- the accepted part of a list is no longer than the list

-- the accepted steps have at most k words
record Within (k : ℕ) (o : Outcome) : Type 0 where
  short : 4 * o.accepted ≤ k

either : (t : Bool) {o p : Outcome} {k : ℕ} → Within k o → Within k p → Within k (cond t o p)
either true h g = h
either false h g = g

loosen : {o : Outcome} {k l : ℕ} → k ≤ l → Within k o → Within l o
loosen i h = record { short = omega arith }

from_fits : (L : Layout) (n : ℕ) (b s : List ℕ) → Within (4 * n + length s) (run_from L n b s)
unfolding run_from
from_fits L n b [] = record { short = omega arith }
from_fits L n b (k ∷ []) = record { short = omega arith }
from_fits L n b (k ∷ x ∷ []) = record { short = omega arith }
from_fits L n b (k ∷ x ∷ y ∷ []) = record { short = omega arith }
from_fits L n b (k ∷ x ∷ y ∷ z ∷ s) =
    either (eqb (refusal_of L b (ask k x y z)) 0) (loosen (omega arith) (from_fits L (n + 1) _ s))
    (record { short = omega arith })

list_fits : (L : Layout) (b s : List ℕ) → Within (length s) (run_of L b s)
unfolding run_of
list_fits L b s =
    either (fit L b)
    (either (eqb (length s % 4) 0) (loosen (omega arith) (from_fits L 0 b s)) (record { short = omega arith }))
    (record { short = omega arith })

pub accepted_fits : (L : Layout) (b s : List ℕ) → 4 * (run_of L b s).accepted ≤ length s
accepted_fits L b s = (list_fits L b s).short
