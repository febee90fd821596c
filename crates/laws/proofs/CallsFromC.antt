-- The same for a C program: on a bank's bytes each call of the C face is the call below it, on the words.
use mathlib.Core.Path.{◌≡◌, refl, sym, ap, subst, ◌∙◌}
use mathlib.Core.Bool.{Bool, true, false}
use mathlib.Core.List.{List, ◌++◌}
use Prim.Native.Nat.{ℕ, ◌*◌}
use native.Mathlib.Omega.{arith}
use lib.Dec.{eqb}
use lib.ListN.{length}
use borrow.Author.Tests.{eq-eqb, ne_eqb, eqb-true, eqb-false}
use Rattle.bank.specs.Layout.{paper, size}
use Rattle.bank.specs.Opening.{answer, open_of}
use Rattle.refusals.specs.Step.{Step}
use Rattle.bank.proofs.Rules.{pass}
use Rattle.group.proofs.Kept.{refused_leaves}
use Rattle.bank.proofs.Fitness.{open_refused-leaves}
use Rattle.settler.specs.Settling.{ending, settle_of}
use Rattle.loargwen.specs.Bytes.{words_of, bytes_of}
use Rattle.loargwen.specs.Face.{is_bank, on_bytes, flag, settled_bytes, SettleBytes}
use Rattle.loargwen.proofs.Crossing.{length-bytes}
use Rattle.loargwen.proofs.Kept.{Left, answered, stored, handed_on, unchanged, open_left, step_left, settle_left}
use Rattle.refusals.specs.Promises.{Allowed}
use Rattle.group.specs.Promises.{after}
use Rattle.laws.specs.Runs.{Run}
use Rattle.laws.specs.Demand.{Reached}
use Rattle.laws.specs.Settler.{Tells}
use Rattle.laws.specs.Calls.{after_open, called, Called}
use Rattle.laws.specs.Calls as Words
use Rattle.laws.specs.CallsFromC.{CCall, open_refused, step, settle, PromisedToC, steps_of_c, count_of_c}
use Rattle.laws.specs.CallsFromC.{CalledFromC, EveryOpenFromC, EveryCCaller}
use Rattle.laws.proofs.Ends.{reached-fit}
use Rattle.laws.proofs.Telling.{settler_tells}
use Rattle.laws.proofs.Calls.{every_caller}

-- the bytes are those of the bank that they stand for
Whole : List ℕ → Type 0
Whole bytes = bytes ≡ bytes_of (words_of bytes)

is-bank : (bytes : List ℕ) → Whole bytes → length (words_of bytes) ≡ size paper → is_bank bytes ≡ true
unfolding Whole
is-bank bytes w e = eq-eqb _ _ (ap length w ∙ length-bytes (words_of bytes) ∙ ap (λ n. 2 * n) e)

-- of a call that left these bytes, where the crate below answers d and leaves the bank b
module _ {bytes new b : List ℕ} {r d : ℕ} (l : Left bytes new r d b) where
  whole_stored : r ≡ 0 → Whole new
  unfolding Whole
  whole_stored z = stored l z ∙ ap bytes_of (sym (handed_on l z))

  -- on a bank's bytes they are a bank's again, and number and bank are those of the crate below
  crossed : Whole bytes → is_bank bytes ≡ true → ((d ≡ 0 → ⊥) → b ≡ words_of bytes)
      → Whole new × (r ≡ d) × (words_of new ≡ b)
  crossed w t keep = go (eqb r 0) refl
    where
      number : r ≡ d
      number = l.number ∙ pass 1 t refl

      go : (u : Bool) → eqb r 0 ≡ u → Whole new × (r ≡ d) × (words_of new ≡ b)
      go true e = let z = eqb-true r 0 e in (whole_stored z, number, handed_on l z)
      go false e =
          let refused = eqb-false r 0 e in
          let same = unchanged l refused in (
            subst Whole (sym same) w,
            number,
            ap words_of same ∙ sym (keep (λ z. refused (number ∙ z))),
          )

-- ---- each call on a reached bank's bytes is the call below on its words

module _ {n k : ℕ} {before : List Step} (bytes : List ℕ) (w : Whole bytes)
    (h : Reached paper n k before (words_of bytes)) where
  whole-bank : is_bank bytes ≡ true
  whole-bank = is-bank bytes w (reached-fit paper n k h).whole

  -- a settling's answer, whose last number is 1 or 0 for the quiet of the one below
  record Settles (d r s q : ℕ) (new : List ℕ) : Type 0 where
    whole : Whole new
    quiet : Bool
    shown : q ≡ flag quiet
    same : ending r s quiet (words_of new) ≡ settle_of paper (words_of bytes) d

  settles : (d r s q : ℕ) (new : List ℕ) → SettleBytes bytes d r s q new → Settles d r s q new
  settles d r s q new p =
      let due = settle_of paper (words_of bytes) d in
      let done = (settler_tells paper h d).accepted in
      let (whole, number, bank) = crossed (settle_left bytes d p) w whole-bank (λ z. absurd (z done)) in
      let e = p ∙ pass (settled_bytes 1 0 0 bytes) whole-bank refl in
      record {
        whole = whole;
        quiet = due.quiet;
        shown = ap (λ o. o.quiet) e;
        same = λ i. ending (number i) (e i).steps due.quiet (bank i);
      }

  -- the same steps, by a call on words
  record Below (x : CCall) (new : List ℕ) : Type 0 where
    whole : Whole new
    call : Words.Call
    promised : Words.Promised paper (words_of bytes) call (words_of new)
    steps : Words.steps_of paper (words_of bytes) call ≡ steps_of_c bytes x
    counted : Words.count_of call ≡ count_of_c x

  below : (x : CCall) (new : List ℕ) → PromisedToC bytes x new → Below x new
  below (open_refused m j r z) new p =
      let (whole, number, bank) =
      crossed (open_left bytes m j p) w whole-bank (open_refused-leaves paper (words_of bytes) m j) in
      record {
        whole = whole;
        call = Words.open_refused m j r z;
        promised = λ i. answer (number i) (bank i);
        steps = refl;
        counted = refl;
      }
  below (step x r) new p =
      let (whole, number, bank) =
      crossed (step_left bytes x p) w whole-bank (refused_leaves paper (words_of bytes) x) in
      record {
        whole = whole;
        call = Words.step x r;
        promised = λ i. answer (number i) (bank i);
        steps = refl;
        counted = refl;
      }
  below (settle d r s q) new p =
      let e = settles d r s q new p in
      record {
        whole = e.whole;
        call = Words.settle d r s e.quiet;
        promised = e.same;
        steps = refl;
        counted = refl;
      }

-- 1 is quiet, and nothing else that a flag shows
flag_back : (q : ℕ) (t : Bool) → q ≡ flag t → eqb q 1 ≡ t
flag_back q true e = eq-eqb q 1 e
flag_back q false e = ne_eqb q 1 (λ f. omega arith)

-- ---- any calls

called-below : (n k : ℕ) {before : List Step} {bytes : List ℕ} → CalledFromC n k before bytes
    → Whole bytes × Called paper n k before (words_of bytes)
called-below n k (after_open {b = new} (bytes, o)) =
    let l = open_left bytes n k o in
    (whole_stored l refl, after_open (words_of bytes, λ i. answer (sym (answered l refl) i) (handed_on l refl i)))
called-below n k (called {before = before} {b = bytes} {c = new} x d p) =
    let (w, c) = called-below n k d in
    let y = below bytes w (every_caller paper n k _ _ c).relies.reached x new p in (
      y.whole,
      subst (λ es. Called paper n k (before ++ es) (words_of new)) y.steps (called y.call c y.promised),
    )

pub every_open_from_c : EveryOpenFromC
every_open_from_c bytes n k z =
    after_open (bytes, λ i. answer (sym z i) (on_bytes bytes (open_of paper (words_of bytes) n k)).bank)

pub every-c_caller : EveryCCaller
unfolding Whole
every-c_caller n k before bytes h =
    let (w, c) = called-below n k h in
    let rely = every_caller paper n k before (words_of bytes) c in
    let relies = rely.relies in
    record {
      whole = w;
      relies = relies;
      every-answer = record { of_open = λ n k z. refl; of_step = λ x. refl; of_settle = λ d. refl };
      leads = λ x new p.
          (let y = below bytes w relies.reached x new p in
          subst (λ es. Run (Allowed paper) (after paper) (words_of bytes) es (words_of new)) y.steps
          (rely.leads y.call (words_of new) y.promised));
      counts = λ x new p.
          (let y = below bytes w relies.reached x new p in
          ap length (sym y.steps) ∙ rely.counts y.call (words_of new) y.promised ∙ y.counted);
      settling = λ d r s q new p.
          (let e = settles bytes w relies.reached d r s q new p in
          subst (Tells paper (words_of bytes) d)
          (sym (ap (λ t. ending r s t (words_of new)) (flag_back q e.quiet e.shown) ∙ e.same))
          (settler_tells paper relies.reached d));
    }
