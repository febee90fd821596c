-- From words to sets: a step's writes change the words' sets just as the step changes sets.
use mathlib.Core.Path.{◌≡◌, refl, sym, ap, ap₂, ◌∙◌}
use mathlib.Core.Bool.{Bool, true, false, cond, not, ◌&&◌, ◌||◌, and-false, and-true}
use mathlib.Core.List.{List, [], ◌∷◌}
use Prim.Native.Nat.{ℕ}
use lib.Dec.{eqb, ltb}
use borrow.Author.Tests.{eqb-true, eqb-false}
use Rattle.sets.specs.Set.{has, with, without, with_all, all_below}
use Rattle.sets.proofs.Members.{has-with, has-without, has-with_all, has-all_below, has-none}
use Rattle.bank.specs.Place.{Field, Words, Record, Write, sender, held, delivered, acked, unsent, in_flight, N, mode}
use Rattle.bank.specs.Place.{count, up, view, message}
use Rattle.group.specs.Writes.{fresh, sent, received, lost, marked}
use Rattle.bank.proofs.Places.{same_field}
use Rattle.laws.proofs.Sets.{RecordSets, Sets, put, new_record, after_send, after_receive, after_deliver, after_lose}

-- ---- the sets of words

unfoldable pub record_sets : Record → RecordSets
record_sets r =
    record {
      sender = r sender;
      held = λ a. has (r held) a;
      delivered = λ a. has (r delivered) a;
      acked = λ a b. has (r (acked a)) b;
      unsent = λ a b. has (r (unsent a)) b;
      in_flight = λ a b. has (r (in_flight a)) b;
    }

unfoldable pub sets : Words → Sets
sets w =
    record {
      N = w N;
      mode = w mode;
      count = w count;
      up = λ a. has (w up) a;
      view = λ a b. has (w (view a)) b;
      message = λ m. record_sets (λ f. w (message m f));
    }

-- ---- one member of one word

out_bool : (x e : Bool) → (x && not e) ≡ cond e false x
out_bool x true = and-false x
out_bool x false = and-true x

in_bool : (x e : Bool) → (x || e) ≡ cond e true x
in_bool true true = refl
in_bool true false = refl
in_bool false true = refl
in_bool false false = refl

pub out_one : (w j b : ℕ) → has (without w j) b ≡ put j false (has w) b
out_one w j b = has-without w j b ∙ out_bool (has w b) (eqb j b)

pub in_one : (w j b : ℕ) → has (with w j) b ≡ put j true (has w) b
in_one w j b = has-with w j b ∙ in_bool (has w b) (eqb j b)

-- a word of a family changed in one member
module _ (W : ℕ → ℕ) (i a : ℕ) where
  here : eqb i a ≡ true → W i ≡ W a
  here e = ap W (eqb-true i a e)

  pub out_at : (j b : ℕ) → has (cond (eqb i a) (without (W i) j) (W a)) b ≡ cond (eqb i a && eqb j b) false (has
      (W a) b)
  out_at j b = go (eqb i a) refl
    where
      go : (t : Bool) → eqb i a ≡ t → has (cond t (without (W i) j) (W a)) b ≡ cond (t && eqb j b) false (has (W a) b)
      go true e = out_one (W i) j b ∙ ap (λ x. cond (eqb j b) false (has x b)) (here e)
      go false e = refl

  in_at : (j b : ℕ) → has (cond (eqb i a) (with (W i) j) (W a)) b ≡ cond (eqb i a && eqb j b) true (has (W a) b)
  in_at j b = go (eqb i a) refl
    where
      go : (t : Bool) → eqb i a ≡ t → has (cond t (with (W i) j) (W a)) b ≡ cond (t && eqb j b) true (has (W a) b)
      go true e = in_one (W i) j b ∙ ap (λ x. cond (eqb j b) true (has x b)) (here e)
      go false e = refl

  -- all n join where the controller did not hold the message
  relay-at : (h : ℕ → Bool) (n b : ℕ)
      → has (cond (eqb i a) (cond (h i) (W i) (with_all (W i) n)) (W a)) b
      ≡ cond (eqb i a && (not (h a) && ltb b n)) true (has (W a) b)
  relay-at h n b = go (eqb i a) refl
    where
      first : (t : Bool) → has (cond t (W a) (with_all (W a) n)) b ≡ cond (not t && ltb b n) true (has (W a) b)
      first true = refl
      first false = has-with_all (W a) n b ∙ in_bool (has (W a) b) (ltb b n)

      go : (t : Bool) → eqb i a ≡ t
          → has (cond t (cond (h i) (W i) (with_all (W i) n)) (W a)) b ≡ cond (t && (not (h a) && ltb b n)) true (has
          (W a) b)
      go true e =
          ap₂ (λ x y. has (cond (h x) y (with_all y n)) b) (eqb-true i a e) (here e) ∙ first (h a)
      go false e = refl

-- ---- one record

-- what a word of a record holds after some writes in it
abbrev pub later_in : List (Write Field) → Record → Record
later_in [] r f = r f
later_in (y ∷ ys) r f = later_in ys (λ g. cond (same_field y.at g) y.word (r g)) f

pub sets-sent : (from to : ℕ) (r : Record)
    → record_sets (later_in (sent from to r) r) ≡ after_send from to (record_sets r)
unfolding record_sets
sets-sent from to r =
    λ d. record {
      sender = r sender;
      held = λ a. has (r held) a;
      delivered = λ a. has (r delivered) a;
      acked = λ a b. has (r (acked a)) b;
      unsent = λ a b. out_at (λ i. r (unsent i)) from a to b d;
      in_flight = λ a b. in_at (λ i. r (in_flight i)) to a from b d;
    }

pub sets-received : (n i from : ℕ) (r : Record)
    → record_sets (later_in (received n i from r) r) ≡ after_receive n i from (record_sets r)
unfolding record_sets
sets-received n i from r =
    λ d. record {
      sender = r sender;
      held = λ a. in_one (r held) i a d;
      delivered = λ a. has (r delivered) a;
      acked = λ a b. in_at (λ j. r (acked j)) i a from b d;
      unsent = λ a b. relay-at (λ j. r (unsent j)) i a (λ j. has (r held) j) n b d;
      in_flight = λ a b. out_at (λ j. r (in_flight j)) i a from b d;
    }

pub sets-delivered : (i : ℕ) (r : Record) → record_sets (later_in (marked i r) r) ≡ after_deliver i (record_sets r)
unfolding record_sets
sets-delivered i r =
    λ d. record {
      sender = r sender;
      held = λ a. has (r held) a;
      delivered = λ a. in_one (r delivered) i a d;
      acked = λ a b. has (r (acked a)) b;
      unsent = λ a b. has (r (unsent a)) b;
      in_flight = λ a b. has (r (in_flight a)) b;
    }

pub sets-lost : (from to : ℕ) (r : Record)
    → record_sets (later_in (lost from to r) r) ≡ after_lose from to (record_sets r)
unfolding record_sets
sets-lost from to r =
    λ d. record {
      sender = r sender;
      held = λ a. has (r held) a;
      delivered = λ a. has (r delivered) a;
      acked = λ a b. has (r (acked a)) b;
      unsent = λ a b. has (r (unsent a)) b;
      in_flight = λ a b. out_at (λ j. r (in_flight j)) to a from b d;
    }

pub sets-fresh : (n who s v : ℕ) → record_sets (fresh n who s v) ≡ new_record n who
unfolding record_sets
sets-fresh n who s v =
    λ d. record {
      sender = who;
      held = λ a. (has-with 0 who a ∙ ap (λ t. t || eqb who a) (has-none a)) d;
      delivered = λ a. has-none a d;
      acked = λ a b. has-none b d;
      unsent = λ a b. own a b d;
      in_flight = λ a b. has-none b d;
    }
  where
    flip : (a : ℕ) → eqb a who ≡ eqb who a
    flip a = go (eqb a who) refl (eqb who a) refl
      where
        go : (t : Bool) → eqb a who ≡ t → (u : Bool) → eqb who a ≡ u → t ≡ u
        go true e true f = refl
        go true e false f = absurd (eqb-false who a f (sym (eqb-true a who e)))
        go false e true f = absurd (eqb-false a who e (sym (eqb-true who a f)))
        go false e false f = refl

    own : (a b : ℕ) → has (cond (eqb a who) (all_below n) 0) b ≡ (eqb who a && ltb b n)
    own a b = ap (λ t. has (cond t (all_below n) 0) b) (flip a) ∙ go (eqb who a)
      where
        go : (t : Bool) → has (cond t (all_below n) 0) b ≡ (t && ltb b n)
        go true = has-all_below n b
        go false = has-none b
