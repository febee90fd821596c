-- Demand 3, sentence by sentence, of every group that was opened and every list of accepted steps, for every layout.
use Rattle.std.specs.Prelude.{ℕ, ◌+◌, ◌≤◌, ◌<◌, ◌≡◌, true, false, List, ◌++◌, length}
use Rattle.bank.specs.Place.{N, mode, count, up, message, sender}
use Rattle.bank.specs.Layout.{Layout, words}
use Rattle.bank.specs.Fit.{Fit}
use Rattle.refusals.specs.Step.{Step, Asked}
use Rattle.refusals.specs.State.{is_up, has_delivered}
use Rattle.lists.specs.Logs.{log_of}
use Rattle.refusals.specs.Promises.{Allowed}
use Rattle.group.specs.Promises.{after, step_of}
use Rattle.settler.specs.Settling.{settle_of}
use Rattle.day.specs.Days.{last_day}
use Rattle.day.specs.Tallies.{tally_refusal}
use Rattle.laws.specs.Above.{NoneAbove}
use Rattle.laws.specs.Runs.{Run, Settling, settlings, most}
use Rattle.laws.specs.Logs.{occurs, LogsRight}
use Rattle.laws.specs.History.{HistoryRight}
use Rattle.laws.specs.Demand.{Finished, Alike, Quorum}
use Rattle.laws.specs.Settler.{chosen, InTurn, Tells}

-- of a group opened with n controllers in mode k, after the accepted steps `before`, whose bank is now b
pub record Demand3 (L : Layout) (n k : ℕ) (before : List Step) (b : List ℕ) : Type 0 where
  -- ---- at this moment

  -- N and the mode are those that the group was opened with
  pub opened_as : (words L b N ≡ n) × (words L b mode ≡ k)
  -- "At every moment, a log holds only messages that were broadcast, none twice, with the sender's own stamp and
  -- value."
  pub logs_hold_broadcasts : LogsRight L b
  pub records_hold_broadcasts : HistoryRight L before b
  -- of set bits of N and above, which nothing changes, an opened group has none
  pub none_above : NoneAbove L b
  -- "an opened group never gets there": the bank is fit, and neither a step, for a full log, nor a tally, for a stray
  -- entry, is refused by 1
  pub fit : Fit L b
  pub steps_find_room : (x : Asked) → (step_of L b x).refusal ≡ 1 → ⊥
  pub no_stray_entry : (who day : ℕ) → who < n → day ≤ last_day → tally_refusal L b who day ≡ 0
  -- ---- at every later moment x, whatever steps were accepted on the way

  -- "A controller that is down stays down until the group is opened anew."
  pub down_stays : (es : List Step) (x : List ℕ) → Run (Allowed L) (after L) b es x
      → (i : ℕ) → is_up (words L b) i ≡ false → is_up (words L x) i ≡ false
  -- what was delivered stays delivered, and a log of now begins each later one
  pub deliveries_stay : (es : List Step) (x : List ℕ) → Run (Allowed L) (after L) b es x
      → (m i : ℕ) → m < words L b count → has_delivered (words L b) i m ≡ true
      → (m < words L x count) × (has_delivered (words L x) i m ≡ true)
  pub logs_grow : (es : List Step) (x : List ℕ) → Run (Allowed L) (after L) b es x
      → (i : ℕ) → (more : List ℕ) × (log_of L x i ≡ log_of L b i ++ more)
  -- ---- "From there take only sends, receipts, detections and deliveries until none is left."

  -- it ends, and on the way N, the mode, the messages and who is up stay: a quorum may be counted before or after
  pub bounded : (es : List Step) (x : List ℕ) → Run (Settling (Allowed L)) (after L) b es x
      → settlings before + length es ≤ most n (words L b count)
  pub header_stays : (es : List Step) (x : List ℕ) → Run (Settling (Allowed L)) (after L) b es x
      → (words L x N ≡ words L b N)
      × (words L x mode ≡ words L b mode)
      × (words L x count ≡ words L b count)
      × (words L x up ≡ words L b up)
  -- "finishing the messages one after another": with a budget of that much the settler leaves none, taking detects
  -- first and then the messages in rising order
  pub one-after_another : (d : ℕ) → most n (words L b count) ≤ d
      → Finished L b (chosen L d b) (settle_of L b d).bank × InTurn 0 (chosen L d b)
  -- "Every order takes equally many steps and ends with the same sets as finishing the messages one after another;
  -- only the order inside the logs may differ.": any two orders, the settler's among them
  pub same_end : (es fs : List Step) (x y : List ℕ) → Finished L b es x → Finished L b fs y
      → (length es ≡ length fs) × Alike L x y
  -- so the settler's answer tells of every order, whatever its budget; 65,535 is enough where no bank of this layout
  -- has more to do
  pub settler_tells : (d : ℕ) → Tells L b d (settle_of L b d)
  pub u16_is_enough : most L.controllers L.messages ≤ 65535 → (settle_of L b 65535).quiet ≡ true
  -- "At that end, in all-ack, or in majority-ack with more than half the controllers up, a message delivered by any
  -- controller, up or down, stands exactly once in the log of each one up."
  pub agreement : (es : List Step) (x : List ℕ) → Finished L b es x → Quorum L x
      → (m i j : ℕ) → m < words L x count → has_delivered (words L x) i m ≡ true → is_up (words L x) j ≡ true
      → occurs m (log_of L x j) ≡ 1
  -- so does one that any controller has delivered by now, whatever is accepted before the settling: its own crash, say
  pub agreement_for_good : (es fs : List Step) (x y : List ℕ) → Run (Allowed L) (after L) b es x → Finished L x fs y
      → Quorum L y
      → (m i j : ℕ) → m < words L b count → has_delivered (words L b) i m ≡ true → is_up (words L y) j ≡ true
      → occurs m (log_of L y j) ≡ 1
  -- "So does each message whose sender is up."
  pub validity : (es : List Step) (x : List ℕ) → Finished L b es x → Quorum L x
      → (m j : ℕ) → m < words L x count → is_up (words L x) (words L x (message m sender)) ≡ true
      → is_up (words L x) j ≡ true → occurs m (log_of L x j) ≡ 1

-- "that is 17,136 for N = 16 and c = 32", and no group of the paper's size has more
abbrev pub PaperBound : Type 0
PaperBound = (most 16 32 ≡ 17136) × ((n c : ℕ) → n ≤ 16 → c ≤ 32 → most n c ≤ 17136)
