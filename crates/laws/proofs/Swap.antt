-- Two different settling steps may be taken in either order: so all ways to settle end with the same sets.
use mathlib.Core.Path.{◌≡◌, refl, sym, subst, ◌∙◌}
use mathlib.Core.Bool.{Bool, true, false, cond}
use mathlib.Core.List.{List}
use Prim.Native.Nat.{ℕ}
use native.Mathlib.Decide.{ℕ_discrete}
use lib.Dec.{eqb}
use lib.ListN.{length}
use borrow.Author.Tests.{eqb-true}
use Rattle.refusals.specs.Step.{Step, send, receive, deliver, detect, step-discrete}
use Rattle.laws.specs.Runs.{Run, Ended, Settling}
use Rattle.laws.proofs.Sets.{RecordSets, Sets, enough_of, cell, put_at, sets_with, in_message, act, Ready, Ok}
use Rattle.laws.proofs.Sets.{after_send, after_receive, after_deliver}
use Rattle.laws.proofs.Onward.{SettlingKind, sends, receives, delivers, detects, kind_of}
use Rattle.laws.proofs.OneEnd.{Square, Diamond, same_end}
use Rattle.laws.proofs.Enough.{enough_grows}
use Rattle.laws.proofs.Cells.{was_in, on_one}
use Rattle.laws.proofs.Copies.{unsent-held, apart}
use Rattle.laws.proofs.Keep.{Inv, keep}
use Rattle.laws.proofs.Meet.{EitherOrder, HasUnsent, HasInFlight, stays, twice}
use Rattle.laws.proofs.Meet.{two_sends, two_receipts, send_receipt, receipt_delivery, two_deliveries}

-- ---- two messages, or one

-- what is asked of message k's record still holds after message m's is changed
read : (s : Sets) (m k : ℕ) (f : RecordSets → RecordSets) (P : RecordSets → Type 0)
    → P (s.message k) → (m ≡ k → P (f (s.message k))) → P ((in_message s m f).message k)
read s m k f P p h =
    on_one m (λ c t. P (s.message c) → (m ≡ c → P (f (s.message c))) → P (cond t (f (s.message c)) (s.message c)))
    (λ _ h. h refl)
    (λ c _ p _. p)
    k
    p
    h

in_messages : {G H K L : Type 0} (s : Sets) (m k : ℕ) (f g : RecordSets → RecordSets) (P Q : RecordSets → Type 0)
    → (G × H × P (s.message m)) → (K × L × Q (s.message k))
    → (m ≡ k → Q (s.message m) → EitherOrder P Q f g (s.message m))
    → (K × L × Q ((in_message s m f).message k))
    × (G × H × P ((in_message s k g).message m))
    × (in_message (in_message s m f) k g ≡ in_message (in_message s k g) m f)
in_messages s m k f g P Q x y h = (
  (y.0, y.1, read s m k f Q y.2 (λ e. subst (λ c. Q (f (s.message c))) e (meet e).0)),
  (x.0, x.1, read s k m g P x.2 (λ e. (meet (sym e)).1)),
  λ z. sets_with s s.count s.up s.view (λ c. go c (eqb m c) (eqb k c) refl refl z),
)
  where
    meet : m ≡ k → EitherOrder P Q f g (s.message m)
    meet e = h e (subst (λ c. Q (s.message c)) (sym e) y.2)

    go : (c : ℕ) (t u : Bool) → eqb m c ≡ t → eqb k c ≡ u
        → cond u (g (cond t (f (s.message c)) (s.message c))) (cond t (f (s.message c)) (s.message c))
        ≡ cond t (f (cond u (g (s.message c)) (s.message c))) (cond u (g (s.message c)) (s.message c))
    go c true true b d =
        let e = eqb-true m c b in
        subst (λ c. g (f (s.message c)) ≡ f (g (s.message c))) e (meet (e ∙ sym (eqb-true k c d))).2
    go c true false b d = refl
    go c false true b d = refl
    go c false false b d = refl

-- ---- the steps that settle

module _ (room : ℕ) (s : Sets) (h : Inv s) where
  abbrev Commute : Step → Step → Type 0
  Commute a b = Ok room s a → Ok room s b → (a ≡ b → ⊥) → Square (Ok room) act s a b

  other_way : {a b : Step} → Commute a b → Commute b a
  other_way c x y n = let q = c y x (λ e. n (sym e)) in (q.1, q.0, sym q.2)

  send-send : (from to m i j k : ℕ) → Commute (send from to m) (send i j k)
  unfolding act
  send-send from to m i j k x y n =
      in_messages s m k (after_send from to) (after_send i j) (HasUnsent from to) (HasUnsent i j) x y
      (λ e q. two_sends (s.message m) from to i j x.2 q (λ d. n (cc (e, d.0, d.1))))

  send-receive : (from to m i j k : ℕ) → Commute (send from to m) (receive i j k)
  unfolding act
  send-receive from to m i j k x y n =
      in_messages s m k (after_send from to) (after_receive s.N i j) (HasUnsent from to) (HasInFlight i j) x y
      (λ e q.
      let c = rw x.2 at ((h.sound m).copies from to) in
      send_receipt (s.message m) from to i j s.N (unsent-held c) (apart c) x.2 q)

  send-deliver : (from to m i k : ℕ) → Commute (send from to m) (deliver i k)
  unfolding act
  send-deliver from to m i k x y n =
      in_messages s m k (after_send from to) (after_deliver i) (HasUnsent from to) (Ready s i) x y
      (λ e q. (q, x.2, refl))

  receive-receive : (i from m j to k : ℕ) → Commute (receive i from m) (receive j to k)
  unfolding act
  receive-receive i from m j to k x y n =
      in_messages s m k (after_receive s.N i from) (after_receive s.N j to)
      (HasInFlight i from)
      (HasInFlight j to)
      x
      y
      (λ e q. two_receipts (s.message m) i from j to s.N x.2 q (λ d. n (cc (e, d.0, d.1))))

  receive-deliver : (i from m j k : ℕ) → Commute (receive i from m) (deliver j k)
  unfolding act
  receive-deliver i from m j k x y n =
      in_messages s m k (after_receive s.N i from) (after_deliver j) (HasInFlight i from) (Ready s j) x y
      (λ e q. receipt_delivery s (s.message m) s.N i from j x.2 q)

  deliver-deliver : (i m j k : ℕ) → Commute (deliver i m) (deliver j k)
  unfolding act
  deliver-deliver i m j k x y n =
      in_messages s m k (after_deliver i) (after_deliver j) (Ready s i) (Ready s j) x y
      (λ e q. two_deliveries s (s.message m) i j x.2 q (λ d. n (cc (e, d))))

  deliver-detect : (i m a b : ℕ) → Commute (deliver i m) (detect a b)
  unfolding act
  deliver-detect i m a b (l, u, (g, d, e)) y n = (y, (l, u, (g, d, passes)), refl)
    where
      passes : enough_of s.mode s.N (put_at a b false s.view i) ((s.message m).acked i) ≡ true
      passes =
          enough_grows s.mode s.N (s.view i) (put_at a b false s.view i) ((s.message m).acked i)
          ((s.message m).acked i)
          (λ _ j _. was_in (cell a b i j) (s.view i j))
          (λ _ _ x. x)
          e

  detect-detect : (i j a b : ℕ) → Commute (detect i j) (detect a b)
  unfolding act
  detect-detect i j a b (l, u, (g, d, e)) (l', u', (g', d', e')) n = (
    (l', u', (g', d', stays s.view i j a b (λ q. n (cc (q.0, q.1))) e')),
    (l, u, (g, d, stays s.view a b i j (λ q. n (cc (q.0, q.1))) e)),
    λ z.
        sets_with s s.count s.up (λ c d. twice false (cell a b c d) (cell i j c d) (s.view c d) z) s.message,
  )

  square : {a b : Step} → SettlingKind a → SettlingKind b → Commute a b
  unfolding act
  square (sends {from} {to} {m}) (sends {from = i} {to = j} {m = k}) = send-send from to m i j k
  square (sends {from} {to} {m}) (receives {i} {from = j} {m = k}) = send-receive from to m i j k
  square (sends {from} {to} {m}) (delivers {i} {m = k}) = send-deliver from to m i k
  square sends detects = λ x y n. (y, x, refl)
  square (receives {i} {from} {m}) (sends {from = j} {to} {m = k}) = other_way (send-receive j to k i from m)
  square (receives {i} {from} {m}) (receives {i = j} {from = to} {m = k}) = receive-receive i from m j to k
  square (receives {i} {from} {m}) (delivers {i = j} {m = k}) = receive-deliver i from m j k
  square receives detects = λ x y n. (y, x, refl)
  square (delivers {i} {m}) (sends {from} {to} {m = k}) = other_way (send-deliver from to k i m)
  square (delivers {i} {m}) (receives {i = j} {from} {m = k}) = other_way (receive-deliver j from k i m)
  square (delivers {i} {m}) (delivers {i = j} {m = k}) = deliver-deliver i m j k
  square (delivers {i} {m}) (detects {i = a} {j = b}) = deliver-detect i m a b
  square detects sends = λ x y n. (y, x, refl)
  square detects receives = λ x y n. (y, x, refl)
  square (detects {i} {j}) (delivers {i = a} {m = k}) = other_way (deliver-detect a k i j)
  square (detects {i} {j}) (detects {i = a} {j = b}) = detect-detect i j a b

pub diamond : (room : ℕ) → Diamond (Settling (Ok room)) act Inv
diamond room =
    record {
      keep = λ s e h o. keep room s h e o.1;
      square =
          λ s a b h x y n.
          let q = square room s h (kind_of a x.0) (kind_of b y.0) x.1 y.1 n in
          ((y.0, q.0), (x.0, q.1), q.2);
    }

-- all ways to settle take equally many steps and end with the same sets
pub same_sets : (room : ℕ) {s t u : Sets} {es fs : List Step} → Inv s
    → Run (Settling (Ok room)) act s es t → Ended (Settling (Ok room)) t
    → Run (Settling (Ok room)) act s fs u → Ended (Settling (Ok room)) u
    → (u ≡ t) × (length es ≡ length fs)
same_sets room = same_end (Settling (Ok room)) act Inv (step-discrete ℕ_discrete) (diamond room)
