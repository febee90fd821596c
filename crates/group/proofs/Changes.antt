-- What each step changes in one record rests on words of the layout, and stands within the record.
use mathlib.Core.Path.{refl, ap, ap₂}
use mathlib.Core.List.{[], ◌∷◌}
use Prim.Native.Nat.{ℕ, ◌<◌}
use native.Mathlib.Omega.{arith}
use Rattle.sets.specs.Set.{with, without}
use Rattle.bank.specs.Place.{◌≔◌, held, delivered, acked, unsent, in_flight}
use Rattle.bank.specs.Layout.{Layout, record_size}
use Rattle.bank.proofs.Places.{offset-below}
use Rattle.bank.proofs.Lending.{Change}
use Rattle.bank.proofs.Fields.{fields-below}
use Rattle.group.specs.Writes.{fresh, fresh_record, sent, received, lost, marked}

module _ (L : Layout) where
  pub fresh_change : (n who s v : ℕ) → Change L (fresh_record L n who s v)
  fresh_change n who s v =
      record {
        rests = λ g h e. refl;
        within = λ r. fields-below L (fresh n who s v) (record_size L) (omega arith);
      }

  pub sent_change : (from to : ℕ) → from < L.controllers → to < L.controllers → Change L (sent from to)
  sent_change from to f t =
      record {
        rests = λ g h e. ap₂ (λ (x y : ℕ). unsent from ≔ without x to ∷ in_flight to ≔ with y from ∷ [])
            (e (unsent from) f) (e (in_flight to) t);
        within = λ r. (offset-below L (unsent from) f, (offset-below L (in_flight to) t, tt));
      }

  pub received_change : (n i from : ℕ) → i < L.controllers → Change L (received n i from)
  received_change n i from l =
      record {
        rests = λ g h e. rw (e (in_flight i) l, e (acked i) l, e held (omega arith), e (unsent i) l) refl;
        within = λ r. (
          offset-below L (in_flight i) l,
          (offset-below L (acked i) l, (offset-below L held (omega arith), (offset-below L (unsent i) l, tt))),
        );
      }

  pub lost_change : (from to : ℕ) → to < L.controllers → Change L (lost from to)
  lost_change from to t =
      record {
        rests = λ g h e. ap (λ (x : ℕ). in_flight to ≔ without x from ∷ []) (e (in_flight to) t);
        within = λ r. (offset-below L (in_flight to) t, tt);
      }

  pub marked_change : (i : ℕ) → Change L (marked i)
  marked_change i =
      record {
        rests = λ g h e. ap (λ (x : ℕ). delivered ≔ with x i ∷ []) (e delivered (omega arith));
        within = λ r. (offset-below L delivered (omega arith), tt);
      }
