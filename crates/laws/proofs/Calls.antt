-- Whatever is called once a group is open, and whatever is answered, the steps that the answers tell of lead to the
-- bank.
use mathlib.Core.Path.{◌≡◌, refl, sym, ap, subst, ◌∙◌}
use mathlib.Core.Bool.{Bool, true, false, cond}
use mathlib.Core.List.{List, []}
use mathlib.Core.Option.{some}
use Prim.Native.Nat.{ℕ}
use native.Mathlib.Nat.{zero-add}
use lib.Dec.{eqb}
use lib.ListN.{length}
use borrow.Author.Tests.{eqb-true, eqb-false}
use Rattle.bank.specs.Layout.{Layout}
use Rattle.bank.specs.Opening.{answer, open_of, OpenPromise}
use Rattle.refusals.specs.Step.{Step, broadcast, send, receive, deliver, crash, detect, lose, asked, Asked}
use Rattle.refusals.specs.Promises.{Allowed, refusal_of}
use Rattle.group.specs.Promises.{after, step_of, StepPromise, TakePromise}
use Rattle.lists.specs.Lists.{outcome, run_of}
use Rattle.group.proofs.Kept.{refused_leaves}
use Rattle.group.proofs.Taking.{asking, taken_as_asked}
use Rattle.bank.proofs.Fitness.{open_refused-leaves}
use Rattle.settler.specs.Settling.{ending, SettlePromise}
use Rattle.step_records.specs.Records.{flat}
use Rattle.laws.specs.Runs.{Run, done}
use Rattle.laws.specs.Demand.{Reached}
use Rattle.laws.specs.Settler.{Tells}
use Rattle.laws.specs.Calls.{asks_for, asks_first, if_accepted, Promised, Call, open_refused, step, take, run}
use Rattle.laws.specs.Calls.{run_steps, settle, steps_of, count_of, after_open, called, Called, RecordsPromised}
use Rattle.laws.specs.Calls.{EveryOpen, EveryCaller}
use Rattle.laws.proofs.Ends.{reached_by}
use Rattle.laws.proofs.Onward.{plain_run}
use Rattle.laws.proofs.Telling.{settler_tells}
use Rattle.laws.proofs.Listed.{stepped, run-leads, opening-done}
use Rattle.laws.proofs.Demand3.{demand_3}

asked_asking : (s : Step) → asked (asking s) ≡ some s
asked_asking (broadcast who s v) = refl
asked_asking (send from to m) = refl
asked_asking (receive i from m) = refl
asked_asking (deliver i m) = refl
asked_asking (crash who) = refl
asked_asking (detect i j) = refl
asked_asking (lose from to m) = refl

module _ (L : Layout) where
  -- the steps es lead from b to c, and are t in number
  abbrev Steps : List ℕ → List Step → List ℕ → Type 0
  Steps = Run (Allowed L) (after L)

  record Led (b : List ℕ) (es : List Step) (t : ℕ) (c : List ℕ) : Type 0 where
    run : Steps b es c
    long : length es ≡ t

  unmoved : {b c : List ℕ} → c ≡ b → Led b [] 0 c
  unmoved {b} e = record { run = subst (Steps b []) (sym e) done; long = refl }

  -- ---- one call

  step_led : (b c : List ℕ) (x : Asked) (r : ℕ) → StepPromise L b x r c
      → Led b (if_accepted r (asked x)) (cond (eqb r 0) 1 0) c
  unfolding step_of
  step_led b c x r p = go (eqb r 0) refl
    where
      number : r ≡ refusal_of L b x
      number = ap (λ a. a.refusal) p

      bank : c ≡ (step_of L b x).bank
      bank = ap (λ a. a.bank) p

      go : (t : Bool) → eqb r 0 ≡ t → Led b (cond t (asks_for (asked x)) []) (cond t 1 0) c
      go true e =
          let (led, one) = stepped L b x (sym number ∙ eqb-true r 0 e) in
          record { run = subst (Steps b (asks_for (asked x))) (sym bank) led; long = one }
      go false e = unmoved (bank ∙ refused_leaves L b x (λ z. eqb-false r 0 e (number ∙ z)))

  -- a step by its kind is the step of the numbers that ask for it
  take_led : (b c : List ℕ) (s : Step) (r : ℕ) → TakePromise L b s r c
      → Led b (if_accepted r (some s)) (cond (eqb r 0) 1 0) c
  take_led b c s r p =
      subst (λ o. Led b (if_accepted r o) (cond (eqb r 0) 1 0) c) (asked_asking s)
      (step_led b c (asking s) r (p ∙ taken_as_asked L b s))

  list_led : (b c steps : List ℕ) (a r : ℕ) → outcome a r c ≡ run_of L b steps → Led b (asks_first a steps) a c
  list_led b c steps a r p =
      let h = run-leads L b steps in
      let many : a ≡ h.more = ap (λ o. o.accepted) p ∙ h.counted ∙ zero-add _ in
      record {
        run =
            subst (λ a. Steps b (asks_first a steps) c) (sym many)
            (subst (Steps b (asks_first h.more steps)) (sym (ap (λ o. o.bank) p)) h.run);
        long = subst (λ a. length (asks_first a steps) ≡ a) (sym many) h.long;
      }

module _ (L : Layout) {n k : ℕ} {before : List Step} {b : List ℕ} (h : Reached L n k before b) where
  settle_tells : (d r t : ℕ) (q : Bool) (c : List ℕ) → SettlePromise L b d r t q c
      → Tells L b d (ending r t q c)
  settle_tells d r t q c p = subst (Tells L b d) (sym p) (settler_tells L h d)

  call_led : (x : Call) (c : List ℕ) → Promised L b x c → Led L b (steps_of L b x) (count_of x) c
  call_led (open_refused m j r z) c p =
      unmoved L
      (ap (λ a. a.bank) p ∙ open_refused-leaves L b m j (λ e. z (ap (λ a. a.refusal) p ∙ e)))
  call_led (step x r) c p = step_led L b c x r p
  call_led (take s r) c p = take_led L b c s r p
  call_led (run steps a r) c p = list_led L b c steps a _ p
  call_led (run_steps steps a r) c p = list_led L b c (flat steps) a _ p
  call_led (settle d r t q) c p =
      let e = settle_tells d r t q c p in record { run = plain_run e.taken; long = e.counted }

-- ---- any calls

module _ (L : Layout) where
  open_reached : (b c : List ℕ) (n k : ℕ) → OpenPromise L b n k 0 c → Reached L n k [] c
  open_reached b c n k o =
      let (sized, known, bank) = opening-done L b n k (sym (ap (λ a. a.refusal) o)) in
      record {
        sized = sized;
        known = known;
        run = subst (λ x. Steps L x [] c) (ap (λ a. a.bank) o ∙ bank) done;
      }

  called-reached : {n k : ℕ} {before : List Step} {b : List ℕ} → Called L n k before b → Reached L n k before b
  called-reached {n} {k} (after_open {b = c} (b, o)) = open_reached b c n k o
  called-reached {n} {k} (called {c = c} x d p) =
      let r = called-reached d in reached_by L n k r (call_led L r x c p).run

pub every_open : EveryOpen
every_open L b n k z = after_open (b, λ i. answer (sym z i) (open_of L b n k).bank)

pub records_promised : RecordsPromised
records_promised b steps a r c p = p

pub every_caller : EveryCaller
every_caller L n k before b h =
    let r = called-reached L h in
    record {
      relies = record { reached = r; demand = demand_3 L n k before b r };
      every-answer =
          record {
            of_open = λ n k z. refl;
            of_step = λ x. refl;
            of_take = λ s. refl;
            of_run = λ list. refl;
            of_records = λ list. refl;
            of_settle = λ d. refl;
          };
      leads = λ x c p. (call_led L r x c p).run;
      counts = λ x c p. (call_led L r x c p).long;
      settling = settle_tells L r;
    }
