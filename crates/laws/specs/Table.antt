-- The paper's proved cases as one table: an opening, a list of steps, a settling, and what is then seen.
use Rattle.std.specs.Prelude.{ℕ, ◌≡◌, Bool, true, false, List, [], ◌∷◌, map}
use Rattle.bank.specs.Place.{message, held, delivered, acked}
use Rattle.bank.specs.Layout.{paper, words, up_from}
use Rattle.bank.specs.Opening.{opened}
use Rattle.lists.specs.Lists.{Outcome, run_of}
use Rattle.lists.specs.Logs.{log_of}
use Rattle.settler.specs.Settling.{Ending, settle_of}
use Rattle.day.specs.Tallies.{tally_of}

-- how many steps of the list were accepted and what refused the next; what the settler took, and whether no step is
-- left; who holds message 0, who has delivered it, and from whom controller 0 has received it; each log; how many
-- entries of controller 0's log are of day 0 and of day 1
pub record Seen : Type 0 where
  pub accepted : ℕ
  pub refusal : ℕ
  pub steps : ℕ
  pub quiet : Bool
  pub held : ℕ
  pub delivered : ℕ
  pub acked : ℕ
  pub logs : List (List ℕ)
  pub days : List ℕ

pub record Case : Type 0 where
  pub N : ℕ
  pub mode : ℕ
  pub list : List ℕ
  pub budget : ℕ
  pub expected : Seen

abbrev case : ℕ → ℕ → List ℕ → ℕ → Seen → Case
case n k list budget expected = record { N = n; mode = k; list = list; budget = budget; expected = expected }

abbrev seen : ℕ → ℕ → ℕ → Bool → ℕ → ℕ → ℕ → List (List ℕ) → List ℕ → Seen
seen a r k q h d acks logs days =
    record {
      accepted = a;
      refusal = r;
      steps = k;
      quiet = q;
      held = h;
      delivered = d;
      acked = acks;
      logs = logs;
      days = days;
    }

-- a controller's log that is empty, and one that holds message 0
abbrev none : List ℕ
none = []

abbrev one : List ℕ
one = 0 ∷ []

-- 0 broadcasts at stamp 96, sends two copies and is gone
abbrev pub half_sent : List ℕ
half_sent = 1 ∷ 0 ∷ 96 ∷ 500 ∷ 2 ∷ 0 ∷ 0 ∷ 0 ∷ 2 ∷ 0 ∷ 1 ∷ 0 ∷ 5 ∷ 0 ∷ 0 ∷ 0 ∷ []

-- 0 broadcasts at a stamp
abbrev reading : ℕ → List ℕ
reading stamp = 1 ∷ 0 ∷ stamp ∷ 7 ∷ []

unfoldable pub table : List Case
table =
    -- the worked run: the settler takes 15 steps
    case 3 1 half_sent 100 (seen 4 0 15 true 7 6 0 (none ∷ one ∷ one ∷ []) (0 ∷ 0 ∷ []))
    -- the same start in majority mode: 13
    ∷ case 3 2 half_sent 100 (seen 4 0 13 true 7 6 0 (none ∷ one ∷ one ∷ []) (0 ∷ 0 ∷ []))
    -- one controller: 3 steps, the log holds 0
    ∷ case 1 1 (reading 0) 100 (seen 1 0 3 true 1 1 1 (one ∷ []) (1 ∷ 0 ∷ []))
    -- two controllers, the sender gone with nothing sent: 1 step, nobody delivers
    ∷ case 2 1 (1 ∷ 0 ∷ 0 ∷ 7 ∷ 5 ∷ 0 ∷ 0 ∷ 0 ∷ []) 100 (seen 2 0 1 true 1 0 0 (none ∷ none ∷ []) (0 ∷ 0 ∷ []))
    -- half is no majority: 12 steps, no step left, nobody delivers; 0 has two acknowledgements
    ∷ case 4 2 (5 ∷ 2 ∷ 0 ∷ 0 ∷ 5 ∷ 3 ∷ 0 ∷ 0 ∷ 1 ∷ 0 ∷ 0 ∷ 7 ∷ []) 100
    (seen 3 0 12 true 3 0 3 (none ∷ none ∷ none ∷ none ∷ []) (0 ∷ 0 ∷ []))
    -- detect of one that is up
    ∷ case 3 1 (6 ∷ 0 ∷ 1 ∷ 0 ∷ []) 0 (seen 0 9 0 true 0 0 0 (none ∷ none ∷ none ∷ []) (0 ∷ 0 ∷ []))
    -- lose with both ends up
    ∷ case 2 1 (1 ∷ 0 ∷ 0 ∷ 7 ∷ 2 ∷ 0 ∷ 1 ∷ 0 ∷ 7 ∷ 0 ∷ 1 ∷ 0 ∷ []) 0
    (seen 2 9 0 false 1 0 0 (none ∷ none ∷ []) (0 ∷ 0 ∷ []))
    -- a second deliver
    ∷ case 1 1 (1 ∷ 0 ∷ 0 ∷ 7 ∷ 2 ∷ 0 ∷ 0 ∷ 0 ∷ 3 ∷ 0 ∷ 0 ∷ 0 ∷ 4 ∷ 0 ∷ 0 ∷ 0 ∷ 4 ∷ 0 ∷ 0 ∷ 0 ∷ []) 0
    (seen 4 10 0 true 1 1 1 (one ∷ []) (1 ∷ 0 ∷ []))
    -- a send by one that is down
    ∷ case 2 1 (1 ∷ 0 ∷ 0 ∷ 7 ∷ 5 ∷ 0 ∷ 0 ∷ 0 ∷ 2 ∷ 0 ∷ 1 ∷ 0 ∷ []) 0
    (seen 2 6 0 false 1 0 0 (none ∷ none ∷ []) (0 ∷ 0 ∷ []))
    -- stamp 95 is of day 0, and 96 of day 1
    ∷ case 1 1 (reading 95) 100 (seen 1 0 3 true 1 1 1 (one ∷ []) (1 ∷ 0 ∷ []))
    ∷ case 1 1 (reading 96) 100 (seen 1 0 3 true 1 1 1 (one ∷ []) (0 ∷ 1 ∷ []))
    ∷ []

-- what is seen after the list, and after the settling
unfoldable pub seen_after : ℕ → Outcome → Ending → Seen
seen_after n o e =
    seen o.accepted o.refusal e.steps e.quiet
    (words paper e.bank (message 0 held)) (words paper e.bank (message 0 delivered))
    (words paper e.bank (message 0 (acked 0)))
    (map (log_of paper e.bank) (up_from 0 n))
    ((tally_of paper e.bank 0 0).tally.count ∷ (tally_of paper e.bank 0 1).tally.count ∷ [])

unfoldable pub seen_of : Case → Seen
seen_of c =
    let o = run_of paper (opened paper c.N c.mode) c.list in
    let e = settle_of paper o.bank c.budget in
    seen_after c.N o e

-- every row shows what it says
abbrev pub TableHolds : Type 0
TableHolds = map seen_of table ≡ map (λ (c : Case). c.expected) table
