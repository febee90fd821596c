-- What the words of a bank say of its controllers and messages.
use Rattle.std.specs.Prelude.{ℕ, Bool, ltb}
use Rattle.sets.specs.Set.{has}
use Rattle.bank.specs.Place.{Words, N, count, up, view, message, held, delivered, unsent, in_flight}

module _ (w : Words) where
  abbrev pub is_controller : ℕ → Bool
  is_controller i = ltb i (w N)

  abbrev pub is_message : ℕ → Bool
  is_message m = ltb m (w count)

  abbrev pub is_up : ℕ → Bool
  is_up i = has (w up) i

  abbrev pub takes_up : ℕ → ℕ → Bool
  takes_up i j = has (w (view i)) j

  abbrev pub holding : ℕ → ℕ → Bool
  holding i m = has (w (message m held)) i

  abbrev pub has_delivered : ℕ → ℕ → Bool
  has_delivered i m = has (w (message m delivered)) i

  -- whether i must still send a copy of m to j, and whether one is on its way
  abbrev pub must_send : ℕ → ℕ → ℕ → Bool
  must_send i j m = has (w (message m (unsent i))) j

  abbrev pub flying : ℕ → ℕ → ℕ → Bool
  flying i j m = has (w (message m (in_flight j))) i
