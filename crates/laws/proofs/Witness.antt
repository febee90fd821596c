-- The worked example's logs from demand 3: one controller is brought to deliver, and no log is looked at.
use mathlib.Core.Path.{◌≡◌, refl, sym, ap, subst, subst₃, ◌∙◌}
use mathlib.Core.Bool.{Bool, true, ◌&&◌}
use mathlib.Core.Logic.{◌⊎◌, inl, inr, ⊎_elim}
use mathlib.Core.List.{List, [], ◌∷◌, ◌++◌}
use Prim.Native.Nat.{ℕ, ◌*◌, ◌<◌}
use native.Mathlib.Nat.{zero-add}
use native.Mathlib.Omega.{arith}
use lib.ListN.{length}
use borrow.Author.Tests.{eq-eqb, eqb-true}
use Rattle.sets.specs.Set.{has, with, without, all_below, cut, with_all, every, within, how_many, count_below}
use Rattle.sets.proofs.Tests.{both}
use Rattle.bank.specs.Place.{count, message, delivered}
use Rattle.bank.specs.Layout.{Layout, paper, words, fields}
use Rattle.bank.specs.Fit.{Fit, is_mode, all_ack}
use Rattle.bank.specs.Opening.{opened}
use Rattle.refusals.specs.Step.{Step, send, receive, deliver, detect}
use Rattle.refusals.specs.State.{is_up, has_delivered}
use Rattle.refusals.specs.Delivery.{enough}
use Rattle.lists.specs.Logs.{log_of}
use Rattle.refusals.specs.Promises.{Allowed, refusal_of}
use Rattle.group.specs.Promises.{after, step_of}
use Rattle.lists.specs.Lists.{run_from, run_of}
use Rattle.refusals.proofs.StepRules.{free_step}
use Rattle.group.proofs.Kept.{fit-after}
use Rattle.settler.specs.Candidates.{free, candidates}
use Rattle.settler.specs.Candidates
use Rattle.settler.specs.Settling.{settle_from, settle_of}
use Rattle.laws.specs.Runs.{Run, done, next, Settling, settles, most}
use Rattle.laws.specs.Logs.{occurs}
use Rattle.laws.specs.Demand.{Reached, Finished, Quorum}
use Rattle.laws.specs.Demand3.{Demand3}
use Rattle.laws.specs.Calls.{asks_first}
use Rattle.laws.specs.Table.{half_sent}
use Rattle.laws.specs.Witness.{worked_steps, WorkedLogs, parted_run, parted_end, QuorumNeeded}
use Rattle.laws.proofs.Onward.{go_on, plain_run}
use Rattle.laws.proofs.OnlyOrder.{no_entry}
use Rattle.laws.proofs.Ends.{reached_on}
use Rattle.laws.proofs.Listed.{run-leads}
use Rattle.laws.proofs.Demand3.{demand_3}

-- ---- steps that are taken one by one, by computing

abbrev after_all : Layout → List ℕ → List Step → List ℕ
after_all L b [] = b
after_all L b (e ∷ es) = after_all L (after L b e) es

run_ends : (L : Layout) {b x : List ℕ} {es : List Step} → Run (Allowed L) (after L) b es x → x ≡ after_all L b es
run_ends L done = refl
run_ends L (next o r) = run_ends L r

-- each settles and nothing refuses it
abbrev all_free : Layout → List ℕ → List Step → Bool
all_free L b [] = true
all_free L b (e ∷ es) = (settles e && free L b e) && all_free L (after L b e) es

free-run : (L : Layout) (b : List ℕ) (es : List Step) → Fit L b → all_free L b es ≡ true
    → Run (Settling (Allowed L)) (after L) b es (after_all L b es)
free-run L b [] f h = done
free-run L b (e ∷ es) f h =
    let (first, rest) = both (settles e && free L b e) (all_free L (after L b e) es) h in
    let (settling, unrefused) = both (settles e) (free L b e) first in
    let a = free_step L b e f (eqb-true _ 0 unrefused) in
    next (settling, a) (free-run L (after L b e) es (fit-after L b e a) rest)

-- ---- a log that holds message 0 once and nothing else

-- of a list of nothing but 0 every element counts
length_of_zeros : (ms : List ℕ) → ((m : ℕ) → 0 < occurs m ms → m < 1) → length ms ≡ occurs 0 ms
unfolding occurs
length_of_zeros [] only = refl
length_of_zeros (x ∷ ms) only =
    let first : x ≡ 0 = omega (arith, only x (rw (eq-eqb x x refl) (omega arith))) in
    rw (eq-eqb x 0 first) (omega (arith, length_of_zeros ms (λ m l. only m (omega (arith, l)))))

zero_alone : (ms : List ℕ) → ((m : ℕ) → 0 < occurs m ms → m < 1) → length ms ≡ 1 → ms ≡ 0 ∷ []
unfolding occurs
zero_alone [] only e = absurd (omega arith)
zero_alone (x ∷ []) only e =
    let first : x ≡ 0 = omega (arith, only x (rw (eq-eqb x x refl) (omega arith))) in ap (λ y. y ∷ []) first
zero_alone (x ∷ y ∷ ms) only e = absurd (omega arith)

-- ---- from demand 3: what one order of settling has somebody deliver, every finished order leaves in every log

module _ (L : Layout) {n k : ℕ} {before : List Step} {b : List ℕ} (r : Reached L n k before b)
    {es : List Step} {y : List ℕ} (way : Run (Settling (Allowed L)) (after L) b es y) where
  here : Demand3 L n k before b
  here = demand_3 L n k before b r

  there : Demand3 L n k (before ++ es) y
  there = demand_3 L n k (before ++ es) y (reached_on L n k r way)

  -- a quorum stays one while settling
  quorum_after : (fs : List Step) (x : List ℕ) → Run (Settling (Allowed L)) (after L) b fs x → Quorum L b → Quorum L x
  quorum_after fs x p q =
      let h = here.header_stays fs x p in
      subst₃ (λ k n u. (k ≡ all_ack) ⊎ (n < 2 * count_below u n)) (sym h.1) (sym h.0) (sym h.3) q

  foreseen : (m i : ℕ) → m < words L y count → has_delivered (words L y) i m ≡ true
      → {fs : List Step} {x : List ℕ} → Finished L b fs x → Quorum L b → (j : ℕ) → is_up (words L b) j ≡ true
      → occurs m (log_of L x j) ≡ 1
  foreseen m i l d {fs} {x} p q j u =
      let rest = (there.one-after_another (most n (words L y count)) (omega arith)).0 in
      let whole = go_on way rest.run in
      let end = there.deliveries_stay _ _ (plain_run rest.run) m i l d in
      let same = (here.same_end fs _ x _ p (record { run = whole; ended = rest.ended })).1 in
      let given : m < words L b count = omega (arith, end.0, (here.header_stays _ _ whole).2) in
      let kept = here.header_stays fs x p.run in
      let word = same.outside (message m delivered) (omega (arith, here.fit.given), omega arith) (no_entry _ refl) in
      here.agreement fs x p (quorum_after fs x p.run q) m i j (omega (arith, kept.2))
      (ap (λ w. has w i) word ∙ end.1)
      (ap (λ w. has w j) kept.3 ∙ u)

-- ---- the worked example

module _ (k : ℕ) (es : List Step) where
  -- as the steps that were sent leave it, and once 1 has delivered
  abbrev sent_bank : List ℕ
  sent_bank = after_all paper (opened paper 3 k) worked_steps

  abbrev acted_bank : List ℕ
  acted_bank = after_all paper sent_bank es

  -- the four steps were accepted, and es bring 1 to deliver; there is one message, and 1 and 2 are up
  record Acts : Type 0 where
    free : all_free paper sent_bank es ≡ true
    acted : has_delivered (words paper acted_bank) 1 0 ≡ true
    given : (words paper sent_bank count ≡ 1) × (words paper acted_bank count ≡ 1)
    known : is_mode k ≡ true
    accepted : (run_of paper (opened paper 3 k) half_sent).accepted ≡ 4
    ups : (is_up (words paper sent_bank) 1 ≡ true) × (is_up (words paper sent_bank) 2 ≡ true)

  module _ (a : Acts) (q : Quorum paper sent_bank) {fs : List Step} {x : List ℕ}
      (r : Reached paper 3 k worked_steps sent_bank) (p : Finished paper sent_bank fs x) where
    begun : Demand3 paper 3 k worked_steps sent_bank
    begun = demand_3 paper 3 k worked_steps sent_bank r

    end : Demand3 paper 3 k (worked_steps ++ fs) x
    end = demand_3 paper 3 k (worked_steps ++ fs) x (reached_on paper 3 k r p.run)

    only : (j m : ℕ) → j < 3 → 0 < occurs m (log_of paper x j) → m < 1
    only j m l o =
        let given = (begun.header_stays fs x p.run).2 ∙ a.given.0 in
        subst (λ c. m < c) given (end.logs_hold_broadcasts.broadcast j m (omega (arith, end.opened_as.0)) o)

    once : (j : ℕ) → is_up (words paper sent_bank) j ≡ true → occurs 0 (log_of paper x j) ≡ 1
    once j u =
        let way = free-run paper sent_bank es begun.fit a.free in
        foreseen paper r way 0 1 (omega (arith, a.given)) a.acted p q j u

    log_is : (j : ℕ) → j < 3 → is_up (words paper sent_bank) j ≡ true → log_of paper x j ≡ 0 ∷ []
    log_is j l u =
        let ms = log_of paper x j in
        zero_alone ms (λ m. only j m l) (length_of_zeros ms (λ m. only j m l) ∙ once j u)

  -- as the list that asks for them leaves it
  abbrev list_bank : List ℕ
  list_bank = (run_of paper (opened paper 3 k) half_sent).bank

  sent : Acts → Reached paper 3 k worked_steps list_bank
  sent a =
      let h = run-leads paper (opened paper 3 k) half_sent in
      let four : h.more ≡ 4 = sym (zero-add _) ∙ sym h.counted ∙ a.accepted in
      record {
        sized = refl;
        known = a.known;
        run =
            subst (λ t. Run (Allowed paper) (after paper) (opened paper 3 k) (asks_first t half_sent) list_bank) four
            h.run;
      }

  worked : Acts → Quorum paper sent_bank → WorkedLogs k
  worked a q =
      record {
        accepted = sent a;
        logs = λ b x fs r p.
            (let e = run_ends paper r.run in
            let r₀ = subst (Reached paper 3 k worked_steps) e r in
            let p₀ = subst (λ b. Finished paper b fs x) e p in
            (log_is a q r₀ p₀ 1 (omega arith) a.ups.0, log_is a q r₀ p₀ 2 (omega arith) a.ups.1));
      }

-- 1 hears from itself and, in all-ack, from 2, and knows that 0 is down; in majority two of three are enough
pub worked_all_ack : WorkedLogs 1
unfolding has with without all_below cut with_all every within how_many count_below fields opened enough refusal_of
    step_of
    run_from run_of
worked_all_ack =
    worked 1
    (detect 1 0
    ∷ receive 1 0 0
    ∷ send 1 1 0
    ∷ receive 1 1 0
    ∷ send 1 2 0
    ∷ receive 2 1 0
    ∷ send 2 1 0
    ∷ receive 1 2 0
    ∷ deliver 1 0
    ∷ [])
    (record { free = refl; acted = refl; given = (refl, refl); known = refl; accepted = refl; ups = (refl, refl) })
    (inl refl)

pub worked_majority : WorkedLogs 2
unfolding has with without all_below cut with_all every within how_many count_below fields opened enough refusal_of
    step_of
    run_from run_of
worked_majority =
    worked 2 (receive 1 0 0 ∷ send 1 1 0 ∷ receive 1 1 0 ∷ deliver 1 0 ∷ [])
    (record { free = refl; acted = refl; given = (refl, refl); known = refl; accepted = refl; ups = (refl, refl) })
    (inr (omega arith))

pub quorum_needed : QuorumNeeded
unfolding has with without all_below cut with_all every within how_many count_below fields opened enough refusal_of
    step_of
    run_from run_of candidates Candidates.next settle_from settle_of parted_run parted_end
quorum_needed =
    record {
      accepted = refl;
      quiet = refl;
      up = (refl, refl);
      logs = (refl, refl);
      none = ⊎_elim (λ e. omega arith) (λ l. omega arith);
    }
