-- At the end, on banks: what anybody has delivered, and what a sender that is up has broadcast, is once in every log.
use mathlib.Core.Path.{◌≡◌, refl, sym, ap, subst, ◌∙◌}
use mathlib.Core.Bool.{true, cond}
use mathlib.Core.List.{List}
use Prim.Native.Nat.{ℕ, ◌<◌}
use native.Mathlib.Omega.{arith}
use Rattle.sets.specs.Set.{has, count_below}
use Rattle.bank.specs.Place.{N, count, message, sender, held, delivered}
use Rattle.bank.specs.Layout.{Layout, words}
use Rattle.bank.specs.Fit.{Fit}
use Rattle.refusals.specs.Step.{Step}
use Rattle.refusals.specs.State.{is_up, holding, has_delivered}
use Rattle.lists.specs.Logs.{log_of}
use Rattle.refusals.specs.Promises.{Allowed}
use Rattle.group.specs.Promises.{after}
use Rattle.laws.specs.Runs.{Run, Ended, Settling}
use Rattle.laws.specs.Logs.{occurs}
use Rattle.laws.specs.Demand.{Reached, Finished, Quorum}
use Rattle.laws.proofs.Onward.{go_on, plain_run}
use Rattle.laws.proofs.Sets.{Ok, Quorate}
use Rattle.laws.proofs.Visible.{visible, seen_in}
use Rattle.laws.proofs.Bridge.{record_sets, sets}
use Rattle.laws.proofs.Steps.{sets_of}
use Rattle.laws.proofs.End
use Rattle.laws.proofs.Lifting.{reached_inv}
use Rattle.laws.proofs.Ends.{reached_by, reached-fit, reached-logs, quiet-sets}
use Rattle.laws.proofs.Stays.{given_stays, delivered_stays}

module _ (L : Layout) {n k : ℕ} {before : List Step} {x : List ℕ} (r : Reached L n k before x) where
  fx : Fit L x
  fx = reached-fit L n k r

  -- the sets of a message below the count are its words'
  shown_delivered : (m i : ℕ) → m < words L x count
      → ((sets_of L x).message m).delivered i ≡ has_delivered (words L x) i m
  unfolding sets_of sets record_sets
  shown_delivered m i l =
      ap (λ w. has w i) (seen_in L (words L x) (message m delivered) (omega (arith, fx.given), omega arith))

  shown_held : (m i : ℕ) → m < words L x count → ((sets_of L x).message m).held i ≡ holding (words L x) i m
  unfolding sets_of sets record_sets
  shown_held m i l = ap (λ w. has w i) (seen_in L (words L x) (message m held) (omega (arith, fx.given), omega arith))

  shown_up : (i : ℕ) → (sets_of L x).up i ≡ is_up (words L x) i
  unfolding sets_of sets visible
  shown_up i = refl

  shown_count : (sets_of L x).count ≡ words L x count
  unfolding sets_of sets visible
  shown_count = refl

  shown_sender : (m : ℕ) → m < words L x count → ((sets_of L x).message m).sender ≡ words L x (message m sender)
  unfolding sets_of sets record_sets
  shown_sender m l = seen_in L (words L x) (message m sender) (omega (arith, fx.given), omega arith)

  quorate : Quorum L x → Quorate (sets_of L x)
  unfolding sets_of sets visible count_below
  quorate q = q

  inside : (j : ℕ) → is_up (words L x) j ≡ true → j < words L x N
  unfolding sets_of sets visible
  inside j u = (reached_inv L r).inside j u

  -- ---- at the end

  module _ (z : Ended (Settling (Allowed L)) x) (q : Quorum L x) (m : ℕ) (g : m < words L x count) where
    once : (j : ℕ) → is_up (words L x) j ≡ true → ((sets_of L x).message m).delivered j ≡ true
        → occurs m (log_of L x j) ≡ 1
    once j u d =
        (reached-logs L n k r).once j m (inside j u) g ∙ ap (λ t. cond t 1 0) (sym (shown_delivered m j g) ∙ d)

    ended : Ended (Settling (Ok L.messages)) (sets_of L x)
    ended = quiet-sets L n k r z

    pub agreement : (i j : ℕ) → has_delivered (words L x) i m ≡ true → is_up (words L x) j ≡ true
        → occurs m (log_of L x j) ≡ 1
    agreement i j d u =
        once j u
        (End.agreement L.messages (sets_of L x) (reached_inv L r) ended m (subst (λ c. m < c) (sym shown_count) g)
        (quorate q) i j (shown_delivered m i g ∙ d) (shown_up j ∙ u))

    pub validity : (j : ℕ) → is_up (words L x) (words L x (message m sender)) ≡ true → is_up (words L x) j ≡ true
        → occurs m (log_of L x j) ≡ 1
    validity j s u =
        once j u
        (End.validity L.messages (sets_of L x) (reached_inv L r) ended m (subst (λ c. m < c) (sym shown_count) g)
        (quorate q) j (shown_up _ ∙ ap (is_up (words L x)) (shown_sender m g) ∙ s) (shown_up j ∙ u))

-- what was delivered at any moment: it stays delivered, so the end has it, whatever was accepted in between
pub agreement_for_good : (L : Layout) {n k : ℕ} {before es fs : List Step} {b x y : List ℕ} → Reached L n k before b
    → Run (Allowed L) (after L) b es x → Finished L x fs y → Quorum L y
    → (m i j : ℕ) → m < words L b count → has_delivered (words L b) i m ≡ true → is_up (words L y) j ≡ true
    → occurs m (log_of L y j) ≡ 1
agreement_for_good L {n} {k} r p q z m i j l d u =
    let run = go_on p (plain_run q.run) in
    let end = reached_by L n k r run in
    let fb = reached-fit L n k r in
    let fy = reached-fit L n k end in
    agreement L end q.ended z m (given_stays L run fb fy m i l) i j (delivered_stays L run fb fy m i l d) u
