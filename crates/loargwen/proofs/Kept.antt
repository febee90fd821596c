-- What a call leaves in the bytes: every byte as it was where it is refused, else the bank that the next call reads.
use Prim.Native.Nat.{ℕ}
use mathlib.Core.Path.{◌≡◌, refl, sym, ap, ◌∙◌}
use mathlib.Core.Bool.{Bool, true, false, cond}
use mathlib.Core.List.{List}
use native.Mathlib.Omega.{arith}
use borrow.Author.Tests.{eq-eqb, ne_eqb}
use Rattle.bank.specs.Layout.{paper}
use Rattle.bank.specs.Opening.{Answer, answer, open_of}
use Rattle.bank.proofs.Rules.{pass, stop}
use Rattle.refusals.specs.Step.{Asked}
use Rattle.group.specs.Promises.{step_of}
use Rattle.settler.specs.Settling.{settle_of}
use Rattle.loargwen.specs.Bytes.{words_of, bytes_of}
use Rattle.loargwen.specs.Face.{is_bank, bytes_after, on_bytes, OpenBytes, StepBytes, SettledBytes, SettleBytes}
use Rattle.loargwen.proofs.Crossing.{words_back}

kept : (bytes b : List ℕ) {r : ℕ} → (r ≡ 0 → ⊥) → bytes_after bytes r b ≡ bytes
kept bytes b h = stop (bytes_of b) (ne_eqb _ _ h) refl

written : (bytes b : List ℕ) {r : ℕ} → r ≡ 0 → bytes_after bytes r b ≡ bytes_of b
written bytes b e = pass bytes (eq-eqb _ _ e) refl

-- the number r and the bytes afterwards, where the crate below answers d and leaves the bank b
pub record Left (bytes new : List ℕ) (r d : ℕ) (b : List ℕ) : Type 0 where
  pub number : r ≡ cond (is_bank bytes) d 1
  pub held : new ≡ cond (is_bank bytes) (bytes_after bytes d b) bytes

module _ {bytes new b : List ℕ} {r d : ℕ} (l : Left bytes new r d b) where
  pub unchanged : (r ≡ 0 → ⊥) → new ≡ bytes
  unchanged h = go (is_bank bytes) l.number l.held
    where
      go : (t : Bool) → r ≡ cond t d 1 → new ≡ cond t (bytes_after bytes d b) bytes → new ≡ bytes
      go true e k = k ∙ kept bytes b (λ z. h (e ∙ z))
      go false e k = k

  -- an answer of 0 is the crate's below, and its bank is stored
  pub answered : r ≡ 0 → d ≡ 0
  answered z = go (is_bank bytes) l.number
    where
      go : (t : Bool) → r ≡ cond t d 1 → d ≡ 0
      go true e = sym e ∙ z
      go false e = absurd (omega arith)

  pub stored : r ≡ 0 → new ≡ bytes_of b
  stored z = go (is_bank bytes) l.number l.held
    where
      go : (t : Bool) → r ≡ cond t d 1 → new ≡ cond t (bytes_after bytes d b) bytes → new ≡ bytes_of b
      go true e k = k ∙ written bytes b (sym e ∙ z)
      go false e k = absurd (omega arith)

  pub handed_on : r ≡ 0 → words_of new ≡ b
  handed_on z = ap words_of (stored z) ∙ words_back b

-- a part of an answer that is chosen is chosen so itself
chosen : {A B : Type 0} (part : A → B) (t : Bool) (x y : A) → part (cond t x y) ≡ cond t (part x) (part y)
chosen part true x y = refl
chosen part false x y = refl

answer_left : (bytes new : List ℕ) (r : ℕ) (due : Answer) → answer r new ≡ on_bytes bytes due
    → Left bytes new r due.refusal due.bank
answer_left bytes new r due e = record {
  number = ap (λ a. a.refusal) e ∙ chosen (λ (a : Answer). a.refusal) (is_bank bytes) _ _;
  held = ap (λ a. a.bank) e ∙ chosen (λ (a : Answer). a.bank) (is_bank bytes) _ _;
}

-- ---- each call that may write

module _ (bytes : List ℕ) (n k : ℕ) {r : ℕ} {new : List ℕ} (e : OpenBytes bytes n k r new) where
  pub open_left : Left bytes new r (open_of paper (words_of bytes) n k).refusal
      (open_of paper (words_of bytes) n k).bank
  open_left = answer_left bytes new r _ e

  pub open_refused : (r ≡ 0 → ⊥) → new ≡ bytes
  open_refused = unchanged open_left

  pub open_hands_on : r ≡ 0 → words_of new ≡ (open_of paper (words_of bytes) n k).bank
  open_hands_on = handed_on open_left

module _ (bytes : List ℕ) (x : Asked) {r : ℕ} {new : List ℕ} (e : StepBytes bytes x r new) where
  pub step_left : Left bytes new r (step_of paper (words_of bytes) x).refusal
      (step_of paper (words_of bytes) x).bank
  step_left = answer_left bytes new r _ e

  pub step_refused : (r ≡ 0 → ⊥) → new ≡ bytes
  step_refused = unchanged step_left

  pub step_hands_on : r ≡ 0 → words_of new ≡ (step_of paper (words_of bytes) x).bank
  step_hands_on = handed_on step_left

module _ (bytes : List ℕ) (budget : ℕ) {r k q : ℕ} {new : List ℕ} (e : SettleBytes bytes budget r k q new) where
  pub settle_left : Left bytes new r (settle_of paper (words_of bytes) budget).refusal
      (settle_of paper (words_of bytes) budget).bank
  settle_left = record {
    number = ap (λ s. s.refusal) e ∙ chosen (λ (s : SettledBytes). s.refusal) (is_bank bytes) _ _;
    held = ap (λ s. s.bytes) e ∙ chosen (λ (s : SettledBytes). s.bytes) (is_bank bytes) _ _;
  }

  pub settle_refused : (r ≡ 0 → ⊥) → new ≡ bytes
  settle_refused = unchanged settle_left

  pub settle_hands_on : r ≡ 0 → words_of new ≡ (settle_of paper (words_of bytes) budget).bank
  settle_hands_on = handed_on settle_left
