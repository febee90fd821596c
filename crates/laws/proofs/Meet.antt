-- Two settling steps on one message: each leaves what the other asks for, and either order makes the same record.
use mathlib.Core.Path.{◌≡◌, refl, sym, subst}
use mathlib.Core.Bool.{Bool, true, false, cond, not, ◌&&◌, and-eq-true_iff}
use Prim.Native.Nat.{ℕ}
use lib.Dec.{eqb, ltb}
use borrow.Author.Tests.{ne_eqb, not-true}
use Rattle.laws.proofs.Sets.{RecordSets, Sets, cell, put, put_at, record_with, relayed, Ready}
use Rattle.laws.proofs.Sets.{after_send, after_receive, after_deliver}
use Rattle.laws.proofs.Enough.{enough_grows}
use Rattle.laws.proofs.Cells.{clash, is_false, joined, cond_swap, cell_is}

-- one step asks for P and changes the record by f, the other asks for Q and changes it by g
abbrev pub EitherOrder : (P Q : RecordSets → Type 0) (f g : RecordSets → RecordSets) → RecordSets → Type 0
EitherOrder P Q f g r = Q (f r) × P (g r) × (g (f r) ≡ f (g r))

abbrev pub HasUnsent : ℕ → ℕ → RecordSets → Type 0
HasUnsent i j r = r.unsent i j ≡ true

abbrev pub HasInFlight : ℕ → ℕ → RecordSets → Type 0
HasInFlight i j r = r.in_flight i j ≡ true

abbrev pub Differ : ℕ → ℕ → ℕ → ℕ → Type 0
Differ i j a b = (i ≡ a) × (j ≡ b) → ⊥

pub turned : {i j a b : ℕ} → Differ i j a b → Differ a b i j
turned n q = n (sym q.0, sym q.1)

-- a member stays where another leaves
pub stays : (f : ℕ → ℕ → Bool) (i j a b : ℕ) → Differ i j a b → f a b ≡ true → put_at i j false f a b ≡ true
stays f i j a b n e = rw (is_false (cell i j a b) (λ q. n (cell_is i j a b q))) e

pub twice : (v t u x : Bool) → cond t v (cond u v x) ≡ cond u v (cond t v x)
twice v t u x = cond_swap t u v v x (λ _ _. refl)

-- of two receipts at a controller the first fills its unsent set
fill : (e d h l x : Bool)
    → cond (d && (not (cond e true h) && l)) true (cond (e && (not h && l)) true x)
    ≡ cond (e && (not (cond d true h) && l)) true (cond (d && (not h && l)) true x)
fill true true h l x = refl
fill true false h l x = refl
fill false true h l x = refl
fill false false h l x = refl

module _ (r : RecordSets) (i j a b : ℕ) where
  pub two_sends : HasUnsent i j r → HasUnsent a b r → Differ i j a b
      → EitherOrder (HasUnsent i j) (HasUnsent a b) (after_send i j) (after_send a b) r
  two_sends x y n = (
    stays r.unsent i j a b n y,
    stays r.unsent a b i j (turned n) x,
    λ z.
        record_with r r.held r.delivered r.acked
        (λ c d. twice false (cell a b c d) (cell i j c d) (r.unsent c d) z)
        (λ c d. twice true (cell b a c d) (cell j i c d) (r.in_flight c d) z),
  )

  pub two_receipts : (n : ℕ) → HasInFlight i j r → HasInFlight a b r → Differ i j a b
      → EitherOrder (HasInFlight i j) (HasInFlight a b) (after_receive n i j) (after_receive n a b) r
  two_receipts n x y k = (
    stays r.in_flight i j a b k y,
    stays r.in_flight a b i j (turned k) x,
    λ z.
        record_with r
        (λ c. twice true (eqb a c) (eqb i c) (r.held c) z)
        r.delivered
        (λ c d. twice true (cell a b c d) (cell i j c d) (r.acked c d) z)
        (λ c d. fill (eqb i c) (eqb a c) (r.held c) (ltb d n) (r.unsent c d) z)
        (λ c d. twice false (cell a b c d) (cell i j c d) (r.in_flight c d) z),
  )

  -- the sender holds the message already, and its copy is not yet in flight
  pub send_receipt : (n : ℕ) → r.held i ≡ true → r.in_flight j i ≡ false → HasUnsent i j r → HasInFlight a b r
      → EitherOrder (HasUnsent i j) (HasInFlight a b) (after_send i j) (after_receive n a b) r
  send_receipt n h f x y = (
    joined (cell j i a b) (r.in_flight a b) y,
    joined (relayed n a r i j) (r.unsent i j) x,
    λ z.
        record_with r (put a true r.held) r.delivered (put_at a b true r.acked)
        (λ c d. cond_swap (relayed n a r c d) (cell i j c d) true false (r.unsent c d) (old c d) z)
        (λ c d. cond_swap (cell a b c d) (cell j i c d) false true (r.in_flight c d) (other c d) z),
  )
    where
      old : (c d : ℕ) → relayed n a r c d ≡ true → cell i j c d ≡ true → true ≡ false
      old c d p q =
          let k = ((and-eq-true_iff (eqb a c) (not (r.held c) && ltb d n)).0 p).1 in
          let new = not-true (r.held c) ((and-eq-true_iff (not (r.held c)) (ltb d n)).0 k).0 in
          absurd (clash (subst (λ w. r.held w ≡ true) (cell_is i j c d q).0 h) new)

      other : (c d : ℕ) → cell a b c d ≡ true → cell j i c d ≡ true → false ≡ true
      other c d p q =
          let k = cell_is a b c d p in
          let l = cell_is j i c d q in
          absurd (clash y (cc (f, k.0, k.1, l.0, l.1)))

module _ (s : Sets) (r : RecordSets) where
  pub receipt_delivery : (n i j a : ℕ) → HasInFlight i j r → Ready s a r
      → EitherOrder (HasInFlight i j) (Ready s a) (after_receive n i j) (after_deliver a) r
  receipt_delivery n i j a x (h, d, e) = (
    (
      joined (eqb i a) (r.held a) h,
      d,
      enough_grows s.mode s.N (s.view a) (s.view a) (r.acked a) (put_at i j true r.acked a)
          (λ _ b _ u. u)
          (λ b _. joined (cell i j a b) (r.acked a b))
          e,
    ),
    x,
    refl,
  )

  pub two_deliveries : (i a : ℕ) → Ready s i r → Ready s a r → (i ≡ a → ⊥)
      → EitherOrder (Ready s i) (Ready s a) (after_deliver i) (after_deliver a) r
  two_deliveries i a (h, d, e) (h', d', e') n = (
    (h', rw (ne_eqb i a n) d', e'),
    (h, rw (ne_eqb a i (λ q. n (sym q))) d, e),
    λ z.
        record_with r r.held (λ c. twice true (eqb a c) (eqb i c) (r.delivered c) z) r.acked r.unsent
        r.in_flight,
  )
