-- Over the days of a season the tallies of a log add up to the log: each entry has one day.
use Prim.Native.Nat.{ℕ, ◌+◌, ◌*◌, ◌≤◌, ◌<◌, min}
use mathlib.Core.Path.{◌≡◌, refl, ap, ap₂, ◌∙◌}
use mathlib.Core.Bool.{Bool, true, false, cond}
use mathlib.Core.List.{List, [], ◌∷◌}
use native.Mathlib.Omega.{arith}
use lib.Dec.{eqb}
use lib.ListN.{length, drop, length-drop}
use lib.Seq.{length-take-le}
use Rattle.bank.specs.Place.{Place, Words, log, message, stamp, value}
use Rattle.bank.specs.Layout.{Layout, layout, address, words}
use Rattle.bank.proofs.Rooms.{short}
use Rattle.lists.specs.Logs.{log_refusal, used_length, log_of}
use Rattle.lists.proofs.Asking.{log-asked, log_ends, whole_length}
use Rattle.day.specs.Days.{day_of, last_day}
use Rattle.day.specs.Tallies.{tallied, add_entry, add_all, tally_refusal, tally_of}
use Rattle.day.specs.Season.{sum_over, season, AreWords, SeasonAddsUp}
use Rattle.day.proofs.Asking.{tally-whole, log-free, every_day}
use Rattle.day.proofs.Days.{in_season}
use Rattle.day.proofs.Sums.{sum_same, sum_same_below, sum_ones, sum_swap, sum_only}

-- ---- the tally of one day as two sums over the log

-- what a day takes of an entry: its number where the entry is the day's
abbrev pub taken : ℕ → ℕ → ℕ → ℕ
taken day s n = cond (eqb (day_of s) day) n 0

-- an entry more, where the two words are not at their ends
entry_adds : (day n x s v : ℕ) → n < 65535 → x + v ≤ 4294967295
    → add_entry day (tallied n x) s v ≡ tallied (n + taken day s 1) (x + taken day s v)
entry_adds day n x s v h k = go (eqb (day_of s) day)
  where
    go : (t : Bool) → cond t (tallied (min (n + 1) 65535) (min (x + v) 4294967295)) (tallied n x)
        ≡ tallied (n + cond t 1 0) (x + cond t v 0)
    go true = ap₂ tallied (omega arith) (omega arith)
    go false = ap₂ tallied (omega arith) (omega arith)

taken_le : (day s n : ℕ) → taken day s n ≤ n
taken_le day s n = go (eqb (day_of s) day)
  where
    go : (t : Bool) → cond t n 0 ≤ n
    go true = omega arith
    go false = omega arith

-- of a log: what a day takes of the numbers that f has for its entries
abbrev over : Words → (ℕ → ℕ) → ℕ → List ℕ → ℕ
over w f day ms = sum_over (λ m. taken day (w (message m stamp)) (f m)) ms

abbrev value_of : Words → ℕ → ℕ
value_of w m = w (message m value)

tally_sums : (w : Words) → ((p : Place) → w p < 65536) → (day n x : ℕ) (ms : List ℕ)
    → n + length ms ≤ 65535 → x + 65535 * length ms ≤ 4294967295
    → add_all day w (tallied n x) ms ≡ tallied (n + over w (λ m. 1) day ms) (x + over w (value_of w) day ms)
unfolding add_all sum_over
tally_sums w small day n x [] h k = ap₂ tallied (omega arith) (omega arith)
tally_sums w small day n x (m ∷ ms) h k =
    let s = w (message m stamp) in
    let v = value_of w m in
    let l = small (message m value) in
    ap (λ t. add_all day w t ms) (entry_adds day n x s v (omega arith) (omega arith))
    ∙ tally_sums w small day (n + taken day s 1) (x + taken day s v) ms
    (omega (arith, taken_le day s 1))
    (omega (arith, taken_le day s v))
    ∙ ap₂ tallied (omega arith) (omega arith)

-- ---- the season

pub counted-once : (s n : ℕ) → s < 65536 → sum_over (λ d. taken d s n) season ≡ n
unfolding season
counted-once s n h = sum_only (day_of s) n 0 (last_day + 1) (omega arith) (omega (arith, in_season s h))

-- what the days take of a log, one after another, is the whole of it
season_takes : (w : Words) → ((p : Place) → w p < 65536) → (ms : List ℕ) (f g : ℕ → ℕ)
    → ((d : ℕ) → d ≤ last_day → g d ≡ over w f d ms) → sum_over g season ≡ sum_over f ms
unfolding season
season_takes w small ms f g e =
    sum_same_below g (λ d. over w f d ms) (last_day + 1) (λ d h. e d (omega arith)) 0 (last_day + 1) (omega arith)
    ∙ sum_swap (λ d m. taken d (w (message m stamp)) (f m)) season ms
    ∙ sum_same _ f (λ m. counted-once (w (message m stamp)) (f m) (small (message m stamp))) ms

module _ (L : Layout) where
  -- a log is as long as it says, and no longer than there are messages
  pub log-whole : (b : List ℕ) (who : ℕ) → log_refusal L b who ≡ 0
      → (length (log_of L b who) ≡ used_length L b who) × (length (log_of L b who) ≤ L.messages)
  log-whole b who e =
      let a = log-asked L b who e in
      let ends = log_ends L b who _ e refl in
      let r : used_length L b who ≤ length (drop (address L (log who 0)) b) = rw length-drop (omega (arith, ends)) in
      let l = length-take-le (used_length L b who) (drop (address L (log who 0)) b) r in
      (l, omega (arith, l, whole_length L b who e, a.short, a.sound.given))

  -- the two words are far from their ends: a log has at most 32 entries
  module _ (b : List ℕ) (who day : ℕ) (few : L.messages ≤ 32) (small : AreWords b)
      (e : tally_refusal L b who day ≡ 0) where
    day_sums : (d : ℕ) → d ≤ last_day
        → let w = words L b in
        (tally_of L b who d).tally
        ≡ tallied (over w (λ m. 1) d (log_of L b who)) (over w (value_of w) d (log_of L b who))
    day_sums d h =
        let l = (log-whole b who (log-free L b who day e)).1 in
        ap (λ a. a.tally) (tally-whole L b who d (every_day L b who day e d h))
        ∙ tally_sums (words L b) (λ p. small (address L p)) d 0 0 (log_of L b who)
        (omega (arith, l, few))
        (omega (arith, l, few))
        ∙ ap₂ tallied (omega arith) (omega arith)

    season_of : (f g : ℕ → ℕ) → ((d : ℕ) → d ≤ last_day → g d ≡ over (words L b) f d (log_of L b who))
        → sum_over g season ≡ sum_over f (log_of L b who)
    season_of f g q = season_takes (words L b) (λ p. small (address L p)) (log_of L b who) f g q

    season-counts : sum_over (λ d. (tally_of L b who d).tally.count) season ≡ used_length L b who
    season-counts =
        season_of (λ m. 1) _ (λ d h. ap (λ t. t.count) (day_sums d h))
        ∙ sum_ones (log_of L b who)
        ∙ (log-whole b who (log-free L b who day e)).0

    season-sums : sum_over (λ d. (tally_of L b who d).tally.sum) season
        ≡ sum_over (value_of (words L b)) (log_of L b who)
    season-sums = season_of (value_of (words L b)) _ (λ d h. ap (λ t. t.sum) (day_sums d h))

pub season_adds_up : SeasonAddsUp
season_adds_up room b who day small e =
    let L = layout room in
    (season-counts L b who day (short room) small e, season-sums L b who day (short room) small e)
