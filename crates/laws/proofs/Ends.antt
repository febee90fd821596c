-- One end for every order: two finished runs are equally long and leave banks that are the same but for the order in
-- logs.
use mathlib.Core.Path.{◌≡◌, refl, sym, ap, ◌∙◌}
use mathlib.Core.Bool.{Bool, true, false, cond}
use mathlib.Core.List.{List, ◌++◌}
use Prim.Native.Nat.{ℕ, zero, suc, ◌≤◌, ◌<◌}
use native.Mathlib.Nat.{lt_irrefl}
use native.Mathlib.Omega.{arith}
use lib.Dec.{ltb}
use lib.ListN.{length}
use borrow.Author.Tests.{ltb-true, ltb-false}
use Rattle.sets.specs.Set.{has, how_many}
use Rattle.sets.proofs.Counts.{how_many_same}
use Rattle.bank.specs.Place.{Place, N, mode, count, up, view, log_length, log, message}
use Rattle.bank.specs.Place.{sender, stamp, value, held, delivered, acked, unsent, in_flight}
use Rattle.bank.specs.Layout.{Layout, words, PlaceIn}
use Rattle.bank.specs.Fit.{Fit}
use Rattle.refusals.specs.Step.{Step, broadcast, send, receive, deliver, crash, detect, lose}
use Rattle.refusals.specs.State.{has_delivered}
use Rattle.lists.specs.Logs.{log_of}
use Rattle.refusals.specs.Promises.{Allowed}
use Rattle.group.specs.Promises.{after}
use Rattle.laws.specs.Runs.{Run, Ended, Settling}
use Rattle.laws.specs.Logs.{occurs, LogsRight}
use Rattle.laws.specs.Demand.{Reached, Finished, Alike}
use Rattle.laws.proofs.Onward.{go_on, plain_run, kind_of}
use Rattle.laws.proofs.Sets.{Ok}
use Rattle.laws.proofs.Visible.{visible, seen_in}
use Rattle.laws.proofs.Bridge.{record_sets, sets}
use Rattle.laws.proofs.Steps.{sets_of}
use Rattle.laws.proofs.Allowing.{Roomy, ok_allowed}
use Rattle.laws.proofs.Lifting.{lift_settling, reached_inv}
use Rattle.laws.proofs.Reached.{fit-run, opened-word}
use Rattle.laws.proofs.Logs.{logs_hold_broadcasts, delivered_room}
use Rattle.sets.proofs.Members.{same_members}
use Rattle.laws.proofs.Past.{N-kept, mode-kept, stamp-kept, value-kept, log-run, log-absent}
use Rattle.laws.proofs.Swap.{same_sets}

module _ (L : Layout) (n k : ℕ) where
  -- ---- steps go on from where the accepted steps came

  pub reached_by : {before es : List Step} {b x : List ℕ} → Reached L n k before b → Run (Allowed L) (after L) b es x
      → Reached L n k (before ++ es) x
  reached_by r q = record { sized = r.sized; known = r.known; run = go_on r.run q }

  pub reached_on : {before es : List Step} {b x : List ℕ} → Reached L n k before b
      → Run (Settling (Allowed L)) (after L) b es x → Reached L n k (before ++ es) x
  reached_on r q = reached_by r (plain_run q)

  pub reached-fit : {before : List Step} {b : List ℕ} → Reached L n k before b → Fit L b
  reached-fit r = fit-run L n k r.sized r.known r.run

  pub reached-logs : {before : List Step} {b : List ℕ} → Reached L n k before b → LogsRight L b
  reached-logs r = logs_hold_broadcasts L n k r.sized r.known r.run

  pub opened_as : {before : List Step} {b : List ℕ} → Reached L n k before b
      → (words L b N ≡ n) × (words L b mode ≡ k)
  opened_as r = (
    N-kept L r.run ∙ opened-word L n k r.sized N tt refl,
    mode-kept L r.run ∙ opened-word L n k r.sized mode tt refl,
  )

  -- ---- where the bank allows no settling step, its sets allow none

  roomy : {before : List Step} {x : List ℕ} → Reached L n k before x → (e : Step) → Ok L.messages (sets_of L x) e
      → Roomy L x e
  unfolding sets_of sets record_sets visible
  roomy r (broadcast who s v) o = tt
  roomy r (send from to m) o = tt
  roomy r (receive i from m) o = tt
  roomy {x = x} r (deliver i m) o =
      let l : m < L.messages = omega (arith, o.0.1, (reached-fit r).given) in
      let e = sym (seen_in L (words L x) (message m delivered) (l, omega arith)) in
      delivered_room L n k r.sized r.known r.run i m o.0.0 o.0.1 (ap (λ w. has w i) e ∙ o.2.1)
  roomy r (crash who) o = tt
  roomy r (detect i j) o = tt
  roomy r (lose from to m) o = tt

  pub quiet-sets : {before : List Step} {x : List ℕ} → Reached L n k before x → Ended (Settling (Allowed L)) x
      → Ended (Settling (Ok L.messages)) (sets_of L x)
  quiet-sets {x = x} r z e (s, o) = z e (s, ok_allowed L x (reached-fit r) (kind_of e s) (roomy r e o) o)

  -- ---- equal sets, equal words

  module _ (x y : List ℕ) (e : sets_of L x ≡ sets_of L y) where
    -- a number, and a set word, of a place that the layout has
    number : (p : Place) → PlaceIn L p → visible L (words L x) p ≡ visible L (words L y) p → words L x p ≡ words L y p
    number p h q = sym (seen_in L (words L x) p h) ∙ q ∙ seen_in L (words L y) p h

    word : (p : Place) → PlaceIn L p
        → ((j : ℕ) → has (visible L (words L x) p) j ≡ has (visible L (words L y) p) j) → words L x p ≡ words L y p
    word p h q = number p h (same_members _ _ q)

    -- what the sets show: everything but stamps, values and logs
    abbrev Shown : Place → Type 0
    Shown p = PlaceIn L p → words L x p ≡ words L y p

    shown_header : Shown N × Shown mode × Shown count × Shown up × ((i : ℕ) → Shown (view i))
    unfolding sets_of sets
    shown_header = (
      λ h. number N h (ap (λ s. s.N) e),
      λ h. number mode h (ap (λ s. s.mode) e),
      λ h. number count h (ap (λ s. s.count) e),
      λ h. word up h (λ j. ap (λ s. s.up j) e),
      λ i h. word (view i) h (λ j. ap (λ s. s.view i j) e),
    )

    shown_record : (m : ℕ)
        → Shown (message m sender)
        × Shown (message m held)
        × Shown (message m delivered)
        × ((i : ℕ) → Shown (message m (acked i)))
        × ((i : ℕ) → Shown (message m (unsent i)))
        × ((i : ℕ) → Shown (message m (in_flight i)))
    unfolding sets_of sets record_sets
    shown_record m = (
      λ h. number (message m sender) h (ap (λ s. (s.message m).sender) e),
      λ h. word (message m held) h (λ j. ap (λ s. (s.message m).held j) e),
      λ h. word (message m delivered) h (λ j. ap (λ s. (s.message m).delivered j) e),
      λ i h. word (message m (acked i)) h (λ j. ap (λ s. (s.message m).acked i j) e),
      λ i h. word (message m (unsent i)) h (λ j. ap (λ s. (s.message m).unsent i j) e),
      λ i h. word (message m (in_flight i)) h (λ j. ap (λ s. (s.message m).in_flight i j) e),
    )

    -- who has delivered what
    same_delivered : Fit L x → (i m : ℕ) → m < words L x count
        → has_delivered (words L x) i m ≡ has_delivered (words L y) i m
    same_delivered f i m l =
        ap (λ w. has w i) ((shown_record m).2 (omega (arith, f.given), omega arith))

  -- ---- the end

  module _ {before es fs : List Step} {b : List ℕ} (x y : List ℕ) (r : Reached L n k before b)
      (p : Run (Settling (Allowed L)) (after L) b es x) (q : Run (Settling (Allowed L)) (after L) b fs y)
      (e : sets_of L x ≡ sets_of L y) where
    fx : Fit L x
    fx = reached-fit (reached_on r p)

    fy : Fit L y
    fy = reached-fit (reached_on r q)

    same_N_count : (words L x N ≡ words L y N) × (words L x count ≡ words L y count)
    same_N_count = let h = shown_header x y e in (h.0 tt, h.2 tt)

    same_length : (i : ℕ) → i < L.controllers → words L x (log_length i) ≡ words L y (log_length i)
    same_length i l = go (ltb i (words L x N)) refl
      where
        go : (t : Bool) → ltb i (words L x N) ≡ t → words L x (log_length i) ≡ words L y (log_length i)
        go true h =
            let j = ltb-true i (words L x N) h in
            (reached-logs (reached_on r p)).lengths i j
            ∙ how_many_same _ _ (words L x count) (λ m u. same_delivered x y e fx i m u)
            ∙ ap (how_many (has_delivered (words L y) i)) same_N_count.1
            ∙ sym ((reached-logs (reached_on r q)).lengths i (omega (arith, same_N_count.0)))
        go false h =
            let j : words L b N ≤ i = omega (arith, ltb-false i (words L x N) h, N-kept L (plain_run p)) in
            (log-run L i l (plain_run p)).absent j ∙ sym ((log-run L i l (plain_run q)).absent j)

    same_outside : (c : Place) → PlaceIn L c → ((i k : ℕ) → c ≡ log i k → ⊥) → words L x c ≡ words L y c
    same_outside N h z = (shown_header x y e).0 h
    same_outside mode h z = (shown_header x y e).1 h
    same_outside count h z = (shown_header x y e).2 h
    same_outside up h z = (shown_header x y e).3 h
    same_outside (view i) h z = (shown_header x y e).4 i h
    same_outside (log_length i) h z = same_length i h
    same_outside (log i j) h z = absurd (z i j refl)
    same_outside (message m sender) h z = (shown_record x y e m).0 h
    same_outside (message m stamp) h z = stamp-kept L m h.0 p ∙ sym (stamp-kept L m h.0 q)
    same_outside (message m value) h z = value-kept L m h.0 p ∙ sym (value-kept L m h.0 q)
    same_outside (message m held) h z = (shown_record x y e m).1 h
    same_outside (message m delivered) h z = (shown_record x y e m).2 h
    same_outside (message m (acked i)) h z = (shown_record x y e m).3 i h
    same_outside (message m (unsent i)) h z = (shown_record x y e m).4 i h
    same_outside (message m (in_flight i)) h z = (shown_record x y e m).5 i h

    same_logs : (i m : ℕ) → i < words L x N → occurs m (log_of L x i) ≡ occurs m (log_of L y i)
    same_logs i m l = go (ltb m (words L x count)) refl
      where
        rx : LogsRight L x
        rx = reached-logs (reached_on r p)

        ry : LogsRight L y
        ry = reached-logs (reached_on r q)

        ly : i < words L y N
        ly = omega (arith, same_N_count.0)

        nowhere : (o : ℕ) → (0 < o → m < words L x count) → words L x count ≤ m → o ≡ 0
        nowhere zero h u = refl
        nowhere (suc o) h u = absurd (lt_irrefl m (omega (arith, h (omega arith))))

        go : (t : Bool) → ltb m (words L x count) ≡ t → occurs m (log_of L x i) ≡ occurs m (log_of L y i)
        go true h =
            let j = ltb-true m (words L x count) h in
            rx.once i m l j
            ∙ ap (λ t. cond t 1 0) (same_delivered x y e fx i m j)
            ∙ sym (ry.once i m ly (omega (arith, same_N_count.1)))
        go false h =
            let u = ltb-false m (words L x count) h in
            nowhere (occurs m (log_of L x i)) (λ o. rx.broadcast i m l o) u
            ∙ sym (nowhere (occurs m (log_of L y i)) (λ o. omega
            (arith, ry.broadcast i m ly o, same_N_count.1)) u)

    pub alike : Alike L x y
    alike =
        record {
          long = fx.whole ∙ sym fy.whole;
          outside = same_outside;
          logs = λ i m l. same_logs i m (omega arith);
          past = λ i j h u.
              (log-run L i h.0 (plain_run p)).past j h.1 u
              ∙ sym ((log-run L i h.0 (plain_run q)).past j h.1 (omega (arith, same_length i h.0)));
          absent = λ i j h u.
              (let k : words L b N ≤ i = omega (arith, N-kept L (plain_run p)) in
              log-absent L i h.0 (plain_run p) k j h.1 ∙ sym (log-absent L i h.0 (plain_run q) k j h.1));
        }

  -- every order takes equally many steps, and ends with the same bank but for the order inside the logs
  pub same_end : {before es fs : List Step} {b x y : List ℕ} → Reached L n k before b → Finished L b es x
      → Finished L b fs y → (length es ≡ length fs) × Alike L x y
  same_end {x = x} {y = y} r p q =
      let s =
      same_sets L.messages (reached_inv L r) (lift_settling L p.run) (quiet-sets (reached_on r p.run)
      p.ended)
      (lift_settling L q.run) (quiet-sets (reached_on r q.run) q.ended) in
      (s.1, alike x y r p.run q.run (sym s.0))
