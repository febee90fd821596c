-- In an opened group no tally is refused for a stray entry: what a log holds was broadcast.
use mathlib.Core.Path.{◌≡◌, refl}
use mathlib.Core.Bool.{true}
use mathlib.Core.List.{List, [], ◌∷◌}
use Prim.Native.Nat.{ℕ, ◌≤◌, ◌<◌}
use native.Mathlib.Omega.{arith}
use lib.Dec.{leb}
use borrow.Author.Tests.{eq-eqb, lt-ltb, le-leb}
use Rattle.bank.specs.Place.{Words, N, count}
use Rattle.bank.specs.Layout.{Layout, words}
use Rattle.refusals.specs.Step.{Step}
use Rattle.bank.specs.Rules.{◌else◌}
use Rattle.refusals.specs.State.{is_controller}
use Rattle.bank.specs.Fit.{fit}
use Rattle.lists.specs.Logs.{log_of}
use Rattle.bank.proofs.Rules.{none_broken}
use Rattle.bank.proofs.Fitness.{facts_fit}
use Rattle.day.specs.Days.{last_day}
use Rattle.day.specs.Tallies.{all_given, tally_refusal}
use Rattle.laws.specs.Logs.{occurs}
use Rattle.laws.specs.Demand.{Reached}
use Rattle.laws.proofs.Ends.{reached-fit, reached-logs, opened_as}

all-given : (w : Words) (ms : List ℕ) → ((m : ℕ) → 0 < occurs m ms → m < w count) → all_given w ms ≡ true
unfolding all_given occurs
all-given w [] h = refl
all-given w (x ∷ ms) h =
    let here : x < w count = h x (rw (eq-eqb x x refl) (omega arith)) in
    rw (lt-ltb x (w count) here) (all-given w ms (λ m l. h m (omega (arith, l))))

pub tally_not_refused : (L : Layout) {n k : ℕ} {before : List Step} {b : List ℕ} → Reached L n k before b
    → (who day : ℕ) → who < n → day ≤ last_day → tally_refusal L b who day ≡ 0
tally_not_refused L {n} {k} {b = b} r who day l d =
    let there : who < words L b N = omega (arith, (opened_as L n k r).0) in
    none_broken
    (fit L b else 1
    ∷ is_controller (words L b) who else 3
    ∷ leb day last_day else 14
    ∷ all_given (words L b) (log_of L b who) else 1
    ∷ []) (
      facts_fit L b (reached-fit L n k r),
      (
        lt-ltb who (words L b N) there,
        (
          le-leb day last_day d,
          (all-given (words L b) (log_of L b who) (λ m o. (reached-logs L n k r).broadcast who m there o), tt),
        ),
      ),
    )
