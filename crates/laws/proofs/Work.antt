-- The most steps that can still settle a group, whatever its sets hold: each takes one away. So all together stay
-- within the paper's bound where the group was opened, and within a wider one where its sets may be spoilt.
use mathlib.Core.Path.{◌≡◌, refl, sym, ap, subst}
use mathlib.Core.List.{List}
use mathlib.Core.Bool.{Bool, true, false, cond, not, ◌&&◌}
use Prim.Native.Nat.{ℕ, ◌+◌, ◌-◌, ◌*◌, ◌≤◌, ◌<◌}
use native.Mathlib.Nat.{add-mul, mul-add, mul-one}
use native.Mathlib.Numerals.{add-one}
use native.Mathlib.Omega.{arith}
use lib.Dec.{eqb}
use lib.ListN.{length}
use borrow.Author.Tests.{eq-eqb, ne_eqb}
use Rattle.refusals.specs.Step.{Step, broadcast, send, receive, deliver, crash, detect, lose}
use Rattle.laws.specs.Runs.{Run, done, next, Settling, settlings, most, most_of_any, settles}
use Rattle.laws.proofs.Sets.{RecordSets, Sets, new_record, act, in_message, open_sets, Ok}
use Rattle.laws.proofs.Sets.{after_send, after_receive, after_deliver, after_lose}
use Rattle.laws.proofs.Cells.{clash, on_one, on_cell}
use Rattle.laws.proofs.Keep.{same_group}
use Rattle.laws.proofs.Onward.{SettlingKind, sends, receives, delivers, detects, kind_of}
use Rattle.laws.proofs.Sums.{sum, sum_below, sum_most, sum_drop}
use Rattle.laws.proofs.Weights.{at_most, record_work, per, any_work, new_work}
use Rattle.laws.proofs.Weights.{send_work, lose_work, receive_work, deliver_work}

others : Sets → ℕ → ℕ → ℕ
others s a b = cond (not (eqb a b) && s.view a b) 1 0

-- what every message has before it, and the others that each controller still takes to be up
pub work : Sets → ℕ
work s =
    sum (λ m. record_work s.N (s.message m)) s.count
    + sum (λ a. sum (others s a) s.N) s.N

-- ---- one step

module _ (s : Sets) where
  in-message : (m : ℕ) (f : RecordSets → RecordSets) → m < s.count
      → record_work s.N (f (s.message m)) + 1 ≤ record_work s.N (s.message m)
      → work (in_message s m f) + 1 ≤ work s
  unfolding work others
  in-message m f l e =
      omega (
        arith,
        sum_drop true (λ k. record_work s.N ((in_message s m f).message k)) (λ k. record_work s.N (s.message k))
            s.count
            m
            l
            (λ k _.
            on_one m
            (λ k t.
            record_work s.N (cond t (f (s.message k)) (s.message k)) + cond t 1 0
            ≤ record_work s.N (s.message k))
            e
            (λ k _. omega arith)
            k),
      )

  detect_work : (i j : ℕ) → i < s.N → j < s.N → (i ≡ j → ⊥) → s.view i j ≡ true
      → work (act s (detect i j)) + 1 ≤ work s
  unfolding work others act
  detect_work i j k l n e =
      omega (
        arith,
        sum_drop true (λ a. sum (others (act s (detect i j)) a) s.N) (λ a. sum (others s a) s.N)
            s.N
            i
            k
            (λ a _.
            sum_drop (eqb i a) (others (act s (detect i j)) a) (others s a) s.N j l
            (λ b _.
            on_cell i j (λ a b t _. cond (not (eqb a b) && cond t false (s.view a b)) 1 0 + cond t 1 0 ≤ others s a b)
            (rw (e, ne_eqb i j n) (omega arith))
            (λ a b. omega arith)
            a
            b)),
      )

  broadcast_work : (who stamp value : ℕ) → work (act s (broadcast who stamp value)) ≤ work s + per 2 s.N
  unfolding work others act sum
  broadcast_work who stamp value = rw add-one (omega (arith, old, new))
    where
      after : Bool → ℕ → ℕ
      after t k = record_work s.N (cond t (new_record s.N who) (s.message k))

      old : sum (λ k. after (eqb s.count k) k) s.count ≤ sum (after false) s.count
      old =
          sum_below _ _ s.count
          (λ k l. omega (arith, ap (λ t. after t k) (ne_eqb s.count k (omega arith))))

      new : after (eqb s.count s.count) s.count ≤ per 2 s.N
      new = rw (eq-eqb s.count s.count refl) (new_work s.N who)

  crash_work : (who : ℕ) → work (act s (crash who)) ≡ work s
  unfolding work others act
  crash_work who = refl

  -- each settling step lowers the work by one or more
  pub settling_work : (room : ℕ) {e : Step} → SettlingKind e → Ok room s e → work (act s e) + 1 ≤ work s
  unfolding act
  settling_work room (sends {from} {to} {m}) ((k, l, g), u, e) =
      in-message m (after_send from to) g (send_work s.N (s.message m) from to k l e)
  settling_work room (receives {i} {from} {m}) ((k, l, g), u, e) =
      in-message m (after_receive s.N i from) g (receive_work s.N (s.message m) i from k l e)
  settling_work room (delivers {i} {m}) ((l, g), u, (x, d, y)) =
      in-message m (after_deliver i) g (deliver_work s.N (s.message m) i l d)
  settling_work room (detects {i} {j}) ((k, l), u, (a, d, e)) =
      detect_work i j k l (λ q. clash u (subst (λ x. s.up x ≡ false) (sym q) d)) e

  -- what a broadcast adds is counted with the messages
  step_work : (room : ℕ) (e : Step) → Ok room s e
      → cond (settles e) 1 0 + work (act s e) + per 2 s.N * s.count
      ≤ work s + per 2 s.N * (act s e).count
  unfolding act
  step_work room (broadcast who stamp value) o = rw (mul-add, mul-one) (omega (arith, broadcast_work who stamp value))
  step_work room (send from to m) o = omega (arith, settling_work room (sends {from = from} {to = to} {m = m}) o)
  step_work room (receive i from m) o = omega (arith, settling_work room (receives {i = i} {from = from} {m = m}) o)
  step_work room (deliver i m) o = omega (arith, settling_work room (delivers {i = i} {m = m}) o)
  step_work room (crash who) o = omega (arith, crash_work who)
  step_work room (detect i j) o = omega (arith, settling_work room (detects {i = i} {j = j}) o)
  step_work room (lose from to m) ((k, l, g), e, d) =
      omega (arith, in-message m (after_lose from to) g (lose_work s.N (s.message m) from to k l e))

-- ---- runs

-- a run that settles takes no more steps than the work falls by
pub settled_work : (room : ℕ) {s t : Sets} {es : List Step} → Run (Settling (Ok room)) act s es t
    → work t + length es ≤ work s
settled_work room done = omega arith
settled_work room {s} (next {e = e} o go) =
    omega (arith, settling_work s room (kind_of e o.0) o.1, settled_work room go)

run_work : (room : ℕ) {s t : Sets} {es : List Step} → Run (Ok room) act s es t
    → settlings es + work t + per 2 s.N * s.count ≤ work s + per 2 s.N * t.count
run_work room done = omega arith
run_work room {s} {t} (next {e = e} {es = rest} o go) =
    let later =
    subst (λ n. settlings rest + work t + per 2 n * (act s e).count ≤ work (act s e) + per 2 n * t.count)
    (same_group s e).0
    (run_work room go) in
    omega (arith, later, step_work s room e o)

-- ---- the bounds

-- nobody is another to itself
others_most : (s : Sets) → sum (λ a. sum (others s a) s.N) s.N ≤ s.N * (s.N - 1)
unfolding others
others_most s = sum_most (λ a. sum (others s a) s.N) s.N (s.N - 1) row
  where
    row : (a : ℕ) → a < s.N → sum (others s a) s.N ≤ s.N - 1
    row a l =
        omega (
          arith,
          sum_most (λ b. 1) s.N 1 (λ b _. omega arith),
          sum_drop true (others s a) (λ b. 1) s.N a l
              (λ b _.
              on_one a (λ b t. cond (not t && s.view a b) 1 0 + cond t 1 0 ≤ 1)
              (omega arith)
              (λ b _. omega (arith, at_most 1 (s.view a b)))
              b),
        )

-- what c messages come to
messages : (q n c : ℕ) → per q n * c ≡ q * (n * n) * c + n * c
unfolding per
messages q n c = add-mul (q * (n * n)) n c

-- from opening, over any accepted steps: the settling steps taken and those still to come
pub within-most : (room n k : ℕ) {t : Sets} {es : List Step} → Run (Ok room) act (open_sets n k) es t
    → settlings es + work t ≤ most n t.count
unfolding most work sum
within-most room n k {t} go =
    omega (arith, run_work room go, others_most (open_sets n k), messages 2 n t.count)

-- from any sets: those still to come
pub any-within-most : (s : Sets) → work s ≤ most_of_any s.N s.count
unfolding most_of_any work
any-within-most s =
    omega (
      arith,
      others_most s,
      messages 5 s.N s.count,
      sum_most (λ m. record_work s.N (s.message m)) s.count (per 5 s.N) each,
    )
  where
    each : (m : ℕ) → m < s.count → record_work s.N (s.message m) ≤ per 5 s.N
    each m _ = any_work s.N (s.message m)
