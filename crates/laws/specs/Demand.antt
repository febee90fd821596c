-- What demand 3 speaks of: a group that was opened, any accepted steps, then settling steps until none is left.
use Rattle.std.specs.Prelude.{ℕ, ◌*◌, ◌≤◌, ◌<◌, ◌≡◌, true, ◌⊎◌, List, length}
use Rattle.sets.specs.Set.{count_below}
use Rattle.bank.specs.Place.{Place, N, mode, up, log_length, log}
use Rattle.bank.specs.Layout.{Layout, size, words, PlaceIn}
use Rattle.bank.specs.Fit.{is_size, is_mode, all_ack}
use Rattle.bank.specs.Opening.{opened}
use Rattle.refusals.specs.Step.{Step}
use Rattle.lists.specs.Logs.{log_of}
use Rattle.refusals.specs.Promises.{Allowed}
use Rattle.group.specs.Promises.{after}
use Rattle.laws.specs.Runs.{Run, Ended, Settling}
use Rattle.laws.specs.Logs.{occurs}

-- accepted steps, crashes and losses included, from a group of n in mode k that was opened
pub record Reached (L : Layout) (n k : ℕ) (before : List Step) (b : List ℕ) : Type 0 where
  pub sized : is_size L n ≡ true
  pub known : is_mode k ≡ true
  pub run : Run (Allowed L) (after L) (opened L n k) before b

-- from there only sends, receipts, detects and deliveries, until none is left
pub record Finished (L : Layout) (b : List ℕ) (es : List Step) (x : List ℕ) : Type 0 where
  pub run : Run (Settling (Allowed L)) (after L) b es x
  pub ended : Ended (Settling (Allowed L)) x

-- two banks that are the same but for the order inside the logs: every word outside the logs is equal, each log holds
-- each number as often as the other bank's, and the words past its end are equal, as are the logs of controllers that
-- are not there
pub record Alike (L : Layout) (x y : List ℕ) : Type 0 where
  pub long : length x ≡ length y
  pub outside : (p : Place) → PlaceIn L p → ((i k : ℕ) → p ≡ log i k → ⊥) → words L x p ≡ words L y p
  pub logs : (i m : ℕ) → i < words L x N → occurs m (log_of L x i) ≡ occurs m (log_of L y i)
  pub past : (i k : ℕ) → PlaceIn L (log i k) → words L x (log_length i) ≤ k → words L x (log i k) ≡ words L y (log i k)
  pub absent : (i k : ℕ) → PlaceIn L (log i k) → words L x N ≤ i → words L x (log i k) ≡ words L y (log i k)

-- nothing but that order: each log has the same entries, each as often, and where they are in the same order too the
-- two are one bank
pub record OnlyOrder (L : Layout) (x y : List ℕ) : Type 0 where
  pub entries : (i m : ℕ) → i < words L x N → occurs m (log_of L x i) ≡ occurs m (log_of L y i)
  pub one-bank : length x ≡ size L
      → ((i k : ℕ) → PlaceIn L (log i k) → i < words L x N → k < words L x (log_length i)
      → words L x (log i k) ≡ words L y (log i k))
      → x ≡ y

-- all-ack, or majority with more than half of the controllers up
abbrev pub Quorum : Layout → List ℕ → Type 0
Quorum L b =
    (words L b mode ≡ all_ack) ⊎ (words L b N < 2 * count_below (words L b up) (words L b N))
