-- What is right about the logs of a bank: each holds the messages delivered there, once each, and nothing else.
use Rattle.std.specs.Prelude.{ℕ, ◌+◌, ◌<◌, ◌≡◌, cond, List, [], ◌∷◌, eqb}
use Rattle.sets.specs.Set.{how_many}
use Rattle.bank.specs.Place.{N, count, log_length}
use Rattle.bank.specs.Layout.{Layout, words}
use Rattle.refusals.specs.State.{has_delivered}
use Rattle.lists.specs.Logs.{log_of}

-- how often a number stands in a list
unfoldable pub occurs : ℕ → List ℕ → ℕ
occurs m [] = 0
occurs m (x ∷ xs) = cond (eqb x m) 1 0 + occurs m xs

-- of every controller i of the group
pub record LogsRight (L : Layout) (b : List ℕ) : Type 0 where
  -- what stands in its log was broadcast
  pub broadcast : (i m : ℕ) → i < words L b N → 0 < occurs m (log_of L b i) → m < words L b count
  -- a message that was broadcast stands in its log once where i has delivered it, and else nowhere
  pub once : (i m : ℕ) → i < words L b N → m < words L b count
      → occurs m (log_of L b i) ≡ cond (has_delivered (words L b) i m) 1 0
  -- its log is as long as messages were delivered there
  pub lengths : (i : ℕ) → i < words L b N
      → words L b (log_length i) ≡ how_many (has_delivered (words L b) i) (words L b count)
