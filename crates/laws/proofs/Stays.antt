-- What a group keeps from one moment to every later one, whatever is accepted between: who is down, what was delivered,
-- and how each log begins.
use mathlib.Core.Path.{◌≡◌, refl, sym, ap, ap₂, subst, ◌∙◌}
use mathlib.Core.Bool.{Bool, true, false, cond}
use mathlib.Core.List.{List, [], ◌∷◌, ◌++◌, map, append-nil}
use Prim.Native.Nat.{ℕ, zero, suc, ◌+◌, ◌-◌, ◌≤◌, ◌<◌}
use native.Mathlib.Nat.{add-zero, zero-add, suc-add}
use native.Mathlib.Omega.{arith}
use lib.Dec.{eqb, ltb}
use borrow.Author.Tests.{ne_eqb, ltb-true, ltb-false}
use Rattle.sets.specs.Set.{has}
use Rattle.bank.specs.Place.{N, count, up, log_length, log, message, delivered}
use Rattle.bank.specs.Layout.{Layout, words, up_from}
use Rattle.bank.specs.Fit.{Fit}
use Rattle.refusals.specs.Step.{Step, broadcast, send, receive, deliver, crash, detect, lose}
use Rattle.refusals.specs.State.{is_up, has_delivered}
use Rattle.lists.specs.Logs.{log_of}
use Rattle.refusals.specs.Promises.{Allowed}
use Rattle.group.specs.Promises.{after}
use Rattle.laws.specs.Runs.{Run, done, next}
use Rattle.laws.proofs.Sets.{Sets, RecordSets, Ok, act, new_record}
use Rattle.laws.proofs.Sets.{after_send, after_receive, after_deliver, after_lose}
use Rattle.laws.proofs.Cells.{clash, is_false, joined, was_in}
use Rattle.laws.proofs.Visible.{seen_in}
use Rattle.laws.proofs.Bridge.{sets, record_sets}
use Rattle.laws.proofs.Steps.{sets_of}
use Rattle.laws.proofs.Lifting.{lift_run}
use Rattle.laws.proofs.Entries.{log_short, log-entries, no_log}
use Rattle.laws.proofs.Past.{N-kept, log-run}

-- ---- on sets

-- t is s or later: nobody has come up, there are no fewer messages, and what was delivered still is
pub record Later (s t : Sets) : Type 0 where
  pub down : (i : ℕ) → t.up i ≡ true → s.up i ≡ true
  pub given : s.count ≤ t.count
  pub delivered : (m i : ℕ) → m < s.count → (s.message m).delivered i ≡ true → (t.message m).delivered i ≡ true

-- a record that is changed, or not, has delivered what it had where the change keeps it
changed : (f : RecordSets → RecordSets) (r : RecordSets) (i : ℕ) (t : Bool)
    → (r.delivered i ≡ true → (f r).delivered i ≡ true) → r.delivered i ≡ true → (cond t (f r) r).delivered i ≡ true
changed f r i true keep h = keep h
changed f r i false keep h = h

later_step : (s : Sets) (e : Step) → Later s (act s e)
unfolding act
later_step s (broadcast who stamp value) =
    record {
      down = λ i h. h;
      given = omega arith;
      delivered = λ m i l h.
          subst (λ t. (cond t (new_record s.N who) (s.message m)).delivered i ≡ true)
          (sym (ne_eqb s.count m (omega arith))) h;
    }
later_step s (send from to k) =
    record {
      down = λ i h. h;
      given = omega arith;
      delivered = λ m i l. changed (after_send from to) (s.message m) i (eqb k m) (λ h. h);
    }
later_step s (receive a from k) =
    record {
      down = λ i h. h;
      given = omega arith;
      delivered = λ m i l. changed (after_receive s.N a from) (s.message m) i (eqb k m) (λ h. h);
    }
later_step s (deliver a k) =
    record {
      down = λ i h. h;
      given = omega arith;
      delivered = λ m i l. changed (after_deliver a) (s.message m) i (eqb k m) (joined (eqb a i) _);
    }
later_step s (crash who) =
    record { down = λ i. was_in (eqb who i) (s.up i); given = omega arith; delivered = λ m i l h. h }
later_step s (detect a j) = record { down = λ i h. h; given = omega arith; delivered = λ m i l h. h }
later_step s (lose from to k) =
    record {
      down = λ i h. h;
      given = omega arith;
      delivered = λ m i l. changed (after_lose from to) (s.message m) i (eqb k m) (λ h. h);
    }

later_run : {room : ℕ} {s t : Sets} {es : List Step} → Run (Ok room) act s es t → Later s t
later_run done = record { down = λ i h. h; given = omega arith; delivered = λ m i l h. h }
later_run {s = s} (next {e = e} o r) =
    let here = later_step s e in
    let there = later_run r in
    record {
      down = λ i h. here.down i (there.down i h);
      given = omega (arith, here.given, there.given);
      delivered = λ m i l h. there.delivered m i (omega (arith, here.given)) (here.delivered m i l h);
    }

-- ---- on banks

module _ (L : Layout) {b x : List ℕ} {es : List Step} (r : Run (Allowed L) (after L) b es x) where
  on_sets : Later (sets_of L b) (sets_of L x)
  on_sets = later_run (lift_run L r)

  pub down_stays : (i : ℕ) → is_up (words L b) i ≡ false → is_up (words L x) i ≡ false
  unfolding sets_of sets
  down_stays i d =
      is_false (is_up (words L x) i) λ u.
      clash
      (ap (λ w. has w i) (sym (seen_in L (words L b) up tt))
      ∙ on_sets.down i (ap (λ w. has w i) (seen_in L (words L x) up tt) ∙ u)) d

  module _ (fb : Fit L b) (fx : Fit L x) (m i : ℕ) (l : m < words L b count) where
    pub given_stays : m < words L x count
    unfolding sets_of sets
    given_stays =
        omega (arith, on_sets.given, seen_in L (words L b) count tt, seen_in L (words L x) count tt)

    pub delivered_stays : has_delivered (words L b) i m ≡ true → has_delivered (words L x) i m ≡ true
    unfolding sets_of sets record_sets
    delivered_stays h =
        ap (λ w. has w i)
        (sym (seen_in L (words L x) (message m delivered) (omega (arith, given_stays, fx.given), omega arith)))
        ∙ on_sets.delivered m i (omega (arith, seen_in L (words L b) count tt))
        (ap (λ w. has w i) (seen_in L (words L b) (message m delivered) (omega (arith, fb.given), omega arith)) ∙ h)

-- ---- logs

-- a longer list of entries begins with a shorter one where the entries of the shorter are the same
longer : (f g : ℕ → ℕ) (n k j : ℕ) → ((i : ℕ) → i < j + n → g i ≡ f i)
    → map g (up_from j (n + k)) ≡ map f (up_from j n) ++ map g (up_from (j + n) k)
longer f g zero k j h = ap₂ (λ i k. map g (up_from i k)) (sym (add-zero j)) (zero-add k)
longer f g (suc n) k j h =
    ap (λ k. map g (up_from j k)) (suc-add n k)
    ∙ ap₂ ◌∷◌ (h j (omega arith))
    (longer f g n k (suc j) (λ i l. h i (omega arith))
    ∙ ap (λ i. map f (up_from (suc j) n) ++ map g (up_from i k)) (let e : suc j + n ≡ j + suc n = omega arith in e))

module _ (L : Layout) {b x : List ℕ} {es : List Step} (fb : Fit L b) (fx : Fit L x)
    (r : Run (Allowed L) (after L) b es x) (i : ℕ) where
  abbrev Grown : Type 0
  Grown = (more : List ℕ) × (log_of L x i ≡ log_of L b i ++ more)

  there_grows : i < words L b N → Grown
  there_grows l =
      let g = log-run L i (omega (arith, fb.few)) r in
      let at : List ℕ → ℕ → ℕ = λ b k. words L b (log i k) in
      let n : ℕ = words L b (log_length i) in
      let k : ℕ = words L x (log_length i) - n in (
        map (at x) (up_from n k),
        log-entries L x fx i (omega (arith, N-kept L r))
            ∙ ap (λ k. map (at x) (up_from 0 k))
            (let s : words L x (log_length i) ≡ n + k = omega (arith, g.grows) in s)
            ∙ longer (at b) (at x) n k 0
            (λ j h. g.same j (omega (arith, log_short L b fb i l, fb.given)) (omega arith))
            ∙ ap₂ (λ begun j. begun ++ map (at x) (up_from j k)) (sym (log-entries L b fb i l)) (zero-add n),
      )

  pub log_grows : Grown
  log_grows = go (ltb i (words L b N)) refl
    where
      go : (t : Bool) → ltb i (words L b N) ≡ t → Grown
      go true h = there_grows (ltb-true i (words L b N) h)
      go false h =
          let l = ltb-false i (words L b N) h in
          ([], no_log L x fx i (omega (arith, N-kept L r)) ∙ sym (append-nil _ ∙ no_log L b fb i l))
