-- No call reads set bits of N and above: opening, lists of steps, the settler, the questions about a log and the day
-- tally too answer banks that differ there alone alike, and leave them so.
use mathlib.Core.Path.{◌≡◌, refl, sym, ap, ap₂, subst, fun_ext, ◌∙◌}
use mathlib.Core.Bool.{Bool, true, false, cond, ◌&&◌}
use mathlib.Core.List.{List, [], ◌∷◌, map}
use mathlib.Core.Option.{Option, none, some}
use Prim.Native.Nat.{ℕ, zero, suc, ◌+◌, ◌%◌, ◌<◌}
use native.Mathlib.Omega.{arith}
use lib.Dec.{eqb, leb}
use lib.ListN.{length, take, drop}
use borrow.Author.Tests.{eqb-true}
use Rattle.sets.proofs.Tests.{both}
use Rattle.bank.specs.Place.{log_length, log, message, stamp, value}
use Rattle.bank.specs.Layout.{Layout, size, address, words, up_from}
use Rattle.bank.specs.Fit.{Fit}
use Rattle.bank.specs.Opening.{opened, open_refusal, open_of}
use Rattle.refusals.specs.Step.{Step, ask}
use Rattle.refusals.specs.Promises.{Allowed}
use Rattle.group.specs.Promises.{after, step_of}
use Rattle.lists.specs.Lists.{outcome, run_from, run_of}
use Rattle.lists.specs.Logs.{log_refusal, used_length, log_of}
use Rattle.bank.proofs.Rules.{stop}
use Rattle.bank.proofs.Fitness.{fit_facts}
use Rattle.refusals.proofs.Bounds.{message-below}
use Rattle.group.proofs.Kept.{fit-after}
use Rattle.group.proofs.Taking.{asking, taken_as_asked}
use Rattle.lists.proofs.Asking.{log-asked}
use Rattle.settler.specs.Candidates.{candidates, first_of, next}
use Rattle.settler.specs.Settling.{Ending, ending, on_next, settle_from, settle_of}
use Rattle.day.specs.Days.{last_day}
use Rattle.day.specs.declared.entries.Tally.{Tally}
use Rattle.day.specs.Tallies.{empty, add_entry, add_all, all_given, tally_refusal, day_answer, tally_of}
use Rattle.day.proofs.Asking.{tests_hold}
use Rattle.laws.specs.Above.{SameBelow, SameAnswer, SameOutcome, SameEnding, AboveUnread}
use Rattle.laws.proofs.Unread.{choose_alike, N_same, count_same, fit_same, controller_same, message_same}
use Rattle.laws.proofs.Unread.{refusal_same, refuse_alike, after_same, go_on_alike}
use Rattle.laws.proofs.Entries.{log-entries}
use Rattle.laws.proofs.Choice.{Next, next_is}

module _ (L : Layout) where
  -- ---- opening

  open_alike : (b c : List ℕ) → SameBelow L b c → (n k : ℕ) → SameAnswer L (open_of L b n k) (open_of L c n k)
  unfolding open_of
  open_alike b c e n k =
      (refused, choose_alike (SameBelow L) (ap (λ r. eqb r 0) refused) (λ _. one-bank (opened L n k)) e)
    where
      refused : open_refusal L b n k ≡ open_refusal L c n k
      refused = choose_alike (◌≡◌) (ap (λ l. eqb l (size L)) e.long) (λ _. refl) refl

      one-bank : (b : List ℕ) → SameBelow L b b
      one-bank b = record { long = refl; numbers = λ p h q. refl; sets = λ p h q j l. refl }

  -- ---- a list of steps

  run-from : (steps : List ℕ) (n : ℕ) (b c : List ℕ) → SameBelow L b c
      → SameOutcome L (run_from L n b steps) (run_from L n c steps)
  unfolding run_from
  run-from [] n b c e = (refl, refl, e)
  run-from (kind ∷ []) n b c e = (refl, refl, e)
  run-from (kind ∷ x ∷ []) n b c e = (refl, refl, e)
  run-from (kind ∷ x ∷ y ∷ []) n b c e = (refl, refl, e)
  run-from (kind ∷ x ∷ y ∷ z ∷ rest) n b c e =
      let r = refuse_alike L b c e (ask kind x y z) in
      choose_alike (SameOutcome L) (ap (λ r. eqb r 0) r)
      (λ _. run-from rest (n + 1) _ _ (go_on_alike L b c e (ask kind x y z)))
      (refl, r, e)

  run_alike : (steps b c : List ℕ) → SameBelow L b c → SameOutcome L (run_of L b steps) (run_of L c steps)
  unfolding run_of
  run_alike steps b c e =
      choose_alike (SameOutcome L) (fit_same L b c e) (λ _. go (eqb (length steps % 4) 0)) (refl, refl, e)
    where
      go : (whole : Bool)
          → SameOutcome L (cond whole (run_from L 0 b steps) (outcome 0 13 b))
          (cond whole (run_from L 0 c steps) (outcome 0 13 c))
      go true = run-from steps 0 b c e
      go false = (refl, refl, e)

  -- ---- the settler

  next_same : (b c : List ℕ) → SameBelow L b c → Fit L b → next L b ≡ next L c
  unfolding next
  next_same b c e f =
      ap₂ first_of (fun_ext (λ s. ap (λ r. eqb r 0) (refusal_same L b c e f s)))
      (ap₂ candidates (N_same L b c e) (count_same L b c e))

  settle-from : (d k : ℕ) (b c : List ℕ) → SameBelow L b c → Fit L b
      → SameEnding L (settle_from L k b d) (settle_from L k c d)
  unfolding settle_from
  settle-from zero k b c e f = (refl, refl, ap (λ o. on_next o true (λ s. false)) (next_same b c e f), e)
  settle-from (suc d) k b c e f =
      subst (λ o. SameEnding L (on_next (next L b) (ending 0 k true b) (rest b))
      (on_next o (ending 0 k true c) (rest c)))
      (next_same b c e f)
      (go (next L b) (next_is L b f)
      (λ s a. settle-from d (k + 1) (after L b s) (after L c s) (after_same L b c e s a) (fit-after L b s a)))
    where
      rest : List ℕ → Step → Ending
      rest b s = settle_from L (k + 1) (after L b s) d

      go : (o : Option Step) → Next L b o → ((s : Step) → Allowed L b s → SameEnding L (rest b s) (rest c s))
          → SameEnding L (on_next o (ending 0 k true b) (rest b)) (on_next o (ending 0 k true c) (rest c))
      go none n r = (refl, refl, refl, e)
      go (some s) n r = r s n.0.1

  settle_alike : (d : ℕ) (b c : List ℕ) → SameBelow L b c → SameEnding L (settle_of L b d) (settle_of L c d)
  unfolding settle_of
  settle_alike d b c e =
      choose_alike (SameEnding L) (fit_same L b c e)
      (λ f. settle-from d 0 b c e (fit_facts L b f))
      (refl, refl, refl, e)

-- ---- logs

map_same : (f g : ℕ → ℕ) (n j : ℕ) → ((k : ℕ) → k < j + n → f k ≡ g k) → map f (up_from j n) ≡ map g (up_from j n)
map_same f g zero j h = refl
map_same f g (suc n) j h = ap₂ ◌∷◌ (h j (omega arith)) (map_same f g n (suc j) (λ k l. h k (omega arith)))

module _ (L : Layout) (b c : List ℕ) (e : SameBelow L b c) where
  ask_alike : (who : ℕ) → log_refusal L b who ≡ log_refusal L c who
  ask_alike who =
      choose_alike (◌≡◌) (fit_same L b c e)
      (λ _. choose_alike (◌≡◌) (controller_same L b c e who) (λ _. refl) refl)
      refl

  used_same : (who : ℕ) → used_length L b who ≡ used_length L c who
  used_same who =
      choose_alike (◌≡◌) (ap (λ r. eqb r 0) (ask_alike who))
      (λ z. let x = log-asked L b who (eqb-true _ 0 z) in
      e.numbers (log_length who) (omega (arith, x.there, x.sound.few)) refl)
      refl

  log_same : (who : ℕ) → log_of L b who ≡ log_of L c who
  log_same who = go (eqb (log_refusal L b who) 0) refl
    where
      go : (t : Bool) → eqb (log_refusal L b who) 0 ≡ t → log_of L b who ≡ log_of L c who
      go true z =
          let x = log-asked L b who (eqb-true _ 0 z) in
          let y = log-asked L c who (sym (ask_alike who) ∙ eqb-true _ 0 z) in
          let here : who < L.controllers = omega (arith, x.there, x.sound.few) in
          log-entries L b x.sound who x.there
          ∙ map_same _ _ (words L b (log_length who)) 0
          (λ k l. e.numbers (log who k) (here, omega (arith, x.short, x.sound.given)) refl)
          ∙ ap (λ n. map (λ k. words L c (log who k)) (up_from 0 n)) (e.numbers (log_length who) here refl)
          ∙ sym (log-entries L c y.sound who y.there)
      go false z =
          ap (λ n. take n (drop (address L (log who 0)) b)) (stop _ z refl)
          ∙ sym (ap (λ n. take n (drop (address L (log who 0)) c)) (sym (used_same who) ∙ stop _ z refl))

  -- ---- the day tally

  given_same : (ms : List ℕ) → all_given (words L b) ms ≡ all_given (words L c) ms
  unfolding all_given
  given_same [] = refl
  given_same (m ∷ ms) = ap₂ ◌&&◌ (message_same L b c e m) (given_same ms)

  add_same : Fit L b → (day : ℕ) (t : Tally) (ms : List ℕ) → all_given (words L b) ms ≡ true
      → add_all day (words L b) t ms ≡ add_all day (words L c) t ms
  unfolding all_given add_all
  add_same f day t [] g = refl
  add_same f day t (m ∷ ms) g =
      let (here, later) = both _ _ g in
      let k = message-below L b f m here in
      let one : 0 < 1 = omega arith in
      add_same f day (add_entry day t (words L b (message m stamp)) (words L b (message m value))) ms later
      ∙ ap₂ (λ s v. add_all day (words L c) (add_entry day t s v) ms)
      (e.numbers (message m stamp) (k, one) refl) (e.numbers (message m value) (k, one) refl)

  ask_day_alike : (who day : ℕ) → tally_refusal L b who day ≡ tally_refusal L c who day
  ask_day_alike who day =
      choose_alike (◌≡◌) (fit_same L b c e)
      (λ _. choose_alike (◌≡◌) (controller_same L b c e who)
      (λ _. ap (λ t. cond (leb day last_day) (cond t 0 1) 14)
      (given_same (log_of L b who) ∙ ap (all_given (words L c)) (log_same who)))
      refl)
      refl

  tally_same : (who day : ℕ) → tally_of L b who day ≡ tally_of L c who day
  unfolding tally_of
  tally_same who day =
      ap₂ day_answer (ask_day_alike who day)
      (choose_alike (◌≡◌) (ap (λ r. eqb r 0) (ask_day_alike who day))
      (λ z. let h = tests_hold L b who day (eqb-true _ 0 z) in
      add_same (fit_facts L b h.sound) day empty (log_of L b who) h.given
      ∙ ap (add_all day (words L c) empty) (log_same who))
      refl)

-- ---- every call

pub above_unread : (L : Layout) → AboveUnread L
unfolding step_of
above_unread L b c e =
    record {
      opening = open_alike L b c e;
      fitness = fit_same L b c e;
      refusal = refuse_alike L b c e;
      step = λ x. (refuse_alike L b c e x, go_on_alike L b c e x);
      take = λ s. rw (taken_as_asked L b s, taken_as_asked L c s)
          (refuse_alike L b c e (asking s), go_on_alike L b c e (asking s));
      run = λ steps. run_alike L steps b c e;
      settle = λ d. settle_alike L d b c e;
      log-length = λ who. (ask_alike L b c e who, used_same L b c e who);
      log_part = log_same L b c e;
      tally = tally_same L b c e;
    }
