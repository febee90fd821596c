-- An opened group never has a set bit of N or above: opening writes none, and no step brings one.
use mathlib.Core.Path.{◌≡◌, refl, sym, ap, ◌∙◌}
use mathlib.Core.Bool.{Bool, true, false, cond, false≢true}
use mathlib.Core.List.{List}
use Prim.Native.Nat.{ℕ, zero, suc, ◌≤◌, ◌<◌}
use native.Mathlib.Decide.{ℕ_discrete}
use native.Mathlib.Omega.{arith}
use lib.Dec.{eqb}
use borrow.Author.Tests.{eq-eqb, ne_eqb, ltb-true, le-ltb}
use Rattle.sets.specs.Set.{has, with, all_below}
use Rattle.sets.proofs.Members.{has-none, has-with, has-all_below}
use Rattle.bank.specs.Place.{Field, Place, sender, stamp, value, held, delivered, acked, unsent, in_flight, N, mode}
use Rattle.bank.specs.Place.{count, up, view, log_length, log, message}
use Rattle.bank.specs.Layout.{Layout, words, PlaceIn}
use Rattle.bank.specs.Fit.{is_size}
use Rattle.bank.specs.Opening.{views, opening, opened, open_of}
use Rattle.refusals.specs.Step.{Step, broadcast, send, receive, deliver, crash, detect, lose}
use Rattle.group.specs.Writes.{fresh}
use Rattle.refusals.specs.Promises.{Allowed}
use Rattle.group.specs.Promises.{after}
use Rattle.refusals.proofs.Granted.{broadcast_granted}
use Rattle.laws.specs.Above.{is_set, is_set_field, Rewrites, BankRewritten, NoneAbove, NeverAbove}
use Rattle.bank.proofs.Places.{Key}
use Rattle.bank.proofs.Rules.{pass}
use Rattle.bank.proofs.Names.{views_aside, later_aside}
use Rattle.bank.proofs.InLayout.{word-opened}
use Rattle.laws.proofs.Untouched.{untouched}
use Rattle.laws.proofs.Above.{Pairs, end, pair, later_pairs, above_unchanged}
use Rattle.laws.proofs.Broadcast.{new_word}

pub bank_rewritten : (L : Layout) → BankRewritten L
unfolding open_of
bank_rewritten L b c n k e f = pass _ (eq-eqb _ _ e) refl ∙ sym (pass _ (eq-eqb _ _ f) refl)

-- ---- what opening and a broadcast write

module _ (n j : ℕ) (l : n ≤ j) where
  none_of_all : has (all_below n) j ≡ false
  none_of_all = has-all_below n j ∙ le-ltb j n l

  abbrev Lacks : Place → ℕ → ℕ → Type 0
  Lacks p x u = is_set p ≡ true → has x j ≡ false

  views_lack : (i k : ℕ) → Pairs Lacks (views n i k) (views n i k)
  views_lack i zero = end
  views_lack i (suc k) = pair refl (λ e. none_of_all) (views_lack (suc i) k)

  opening_lacks : (k : ℕ) → Pairs Lacks (opening n k) (opening n k)
  opening_lacks k =
      pair refl (λ e. absurd (false≢true e))
      (pair refl (λ e. absurd (false≢true e)) (pair refl (λ e. none_of_all) (views_lack 0 n)))

  none_of_one : (i : ℕ) → i < n → has (with 0 i) j ≡ false
  none_of_one i h = let d : i ≡ j → ⊥ = omega arith in rw (has-with, has-none, ne_eqb i j d)

  none_either : (t : Bool) (x y : ℕ) → has x j ≡ false → has y j ≡ false → has (cond t x y) j ≡ false
  none_either true x y h g = h
  none_either false x y h g = g

  ruleset lacking = (has-none, none_of_one, none_of_all, none_either)

  fresh_lacks : (who s v : ℕ) → who < n → (f : Field) → is_set_field f ≡ true → has (fresh n who s v f) j ≡ false
  fresh_lacks who s v h sender e = absurd (false≢true e)
  fresh_lacks who s v h stamp e = absurd (false≢true e)
  fresh_lacks who s v h value e = absurd (false≢true e)
  fresh_lacks who s v h held e = search lacking
  fresh_lacks who s v h delivered e = search lacking
  fresh_lacks who s v h (acked i) e = search lacking
  fresh_lacks who s v h (unsent i) e = search lacking
  fresh_lacks who s v h (in_flight i) e = search lacking

-- ---- a step is a broadcast or not, and a place is of message m's record or not

never : ◌≡◌ {A = ℕ} 0 1 → ⊥
never e = omega arith

abbrev IsBroadcast : Step → Type 0
IsBroadcast s = (who : ℕ) × (t : ℕ) × (v : ℕ) × (s ≡ broadcast who t v)

is_broadcast : (s : Step) → Dec (IsBroadcast s)
is_broadcast (broadcast who t v) = yes (who, t, v, refl)
is_broadcast (send from to m) = no (λ h. never (cc))
is_broadcast (receive i from m) = no (λ h. never (cc))
is_broadcast (deliver i m) = no (λ h. never (cc))
is_broadcast (crash who) = no (λ h. never (cc))
is_broadcast (detect i j) = no (λ h. never (cc))
is_broadcast (lose from to m) = no (λ h. never (cc))

abbrev InRecord : ℕ → Place → Type 0
InRecord m p = (f : Field) × (p ≡ message m f)

in_record : (m : ℕ) (p : Place) → Dec (InRecord m p)
in_record m N = no (λ h. never (cc))
in_record m mode = no (λ h. never (cc))
in_record m count = no (λ h. never (cc))
in_record m up = no (λ h. never (cc))
in_record m (view i) = no (λ h. never (cc))
in_record m (log_length i) = no (λ h. never (cc))
in_record m (log i k) = no (λ h. never (cc))
in_record m (message k f) = go (ℕ_discrete k m)
  where
    go : Dec (k ≡ m) → Dec (InRecord m (message k f))
    go (yes e) = yes (f, ap (λ x. message x f) e)
    go (no d) = no (λ h. d (cc))

-- ---- opening and every step

module _ (L : Layout) where
  opened-none : (n k : ℕ) → is_size L n ≡ true → NoneAbove L (opened L n k)
  opened-none n k e p h q j l =
      let aside : Key → Bool = λ i. eqb i.region 0 in
      let same : words L (opened L n k) N ≡ n =
      word-opened L n k e N tt ∙ later_aside aside (views n 0 n) N n (views_aside aside n 0 n (λ i. refl)) refl in
      ap (λ x. has x j) (word-opened L n k e p h)
      ∙ later_pairs {R = Lacks n j (omega arith)} p 0 0 (opening_lacks n j (omega arith) k) (λ _. has-none j) q

  -- a word of the record that a broadcast writes
  new_none : (b : List ℕ) (who t v : ℕ) (f : Field) → Allowed L b (broadcast who t v)
      → PlaceIn L (message (words L b count) f) → is_set_field f ≡ true → (j : ℕ) → words L b N ≤ j
      → has (words L (after L b (broadcast who t v)) (message (words L b count) f)) j ≡ false
  new_none b who t v f a h q j l =
      let there = (broadcast_granted L (words L b) t v a.free).there in
      ap (λ x. has x j) (new_word L b who t v a f h.1)
      ∙ fresh_lacks (words L b N) j l who t v (ltb-true _ _ there) f q

  step-none : (b : List ℕ) (s : Step) → Allowed L b s → NoneAbove L b → NoneAbove L (after L b s)
  step-none b s a none p h q j l =
      go (is_broadcast s) (in_record (words L b count) p) (omega (arith, untouched L b s a N tt refl))
    where
      stays : (Rewrites (words L b) s p → ⊥) → words L b N ≤ j → has (words L (after L b s) p) j ≡ false
      stays d i = above_unchanged L b s a p h q d j i ∙ none p h q j i

      go : Dec (IsBroadcast s) → Dec (InRecord (words L b count) p) → words L b N ≤ j
          → has (words L (after L b s) p) j ≡ false
      go (no d) r i = stays (λ (who, t, v, f, e, _). d (who, t, v, e)) i
      go (yes w) (no d) i = stays (λ (who, t, v, f, _, e). d (f, e)) i
      go (yes (who, t, v, e)) (yes (f, g)) i =
          rw (e, g) (new_none b who t v f (rw e at a) (rw g at h) (rw g at q) j i)

  pub never_above : NeverAbove L
  never_above =
      record {
        opening = opened-none;
        step = step-none;
      }
