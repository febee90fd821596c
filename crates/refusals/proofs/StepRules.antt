-- A step's rules: their numbers, and that a step which none of them refuses is allowed.
use mathlib.Core.Path.{◌≡◌}
use mathlib.Core.List.{List}
use Prim.Native.Nat.{ℕ}
use Rattle.bank.specs.Layout.{Layout, words}
use Rattle.bank.specs.Fit.{Fit}
use Rattle.bank.proofs.Rules.{Numbered, all_hold, none_broken}
use Rattle.refusals.specs.Step.{Step, broadcast, send, receive, deliver, crash, detect, lose}
use Rattle.refusals.specs.Refusals.{rules, refusal}
use Rattle.refusals.specs.Promises.{Allowed}

pub rules_numbered : (L : Layout) (b : List ℕ) (s : Step) → Numbered (rules L (words L b) s)
rules_numbered L b (broadcast who s v) = (tt, (tt, (tt, tt)))
rules_numbered L b (send from to m) = (tt, (tt, (tt, (tt, (tt, tt)))))
rules_numbered L b (receive i from m) = (tt, (tt, (tt, (tt, (tt, tt)))))
rules_numbered L b (deliver i m) = (tt, (tt, (tt, (tt, (tt, (tt, (tt, tt)))))))
rules_numbered L b (crash who) = (tt, (tt, tt))
rules_numbered L b (detect i j) = (tt, (tt, (tt, (tt, (tt, (tt, tt))))))
rules_numbered L b (lose from to m) = (tt, (tt, (tt, (tt, (tt, tt)))))

-- a step that nothing refuses in a fit bank is allowed, and an allowed one is refused by nothing
pub free_step : (L : Layout) (b : List ℕ) (s : Step) → Fit L b → refusal L (words L b) s ≡ 0 → Allowed L b s
free_step L b s f e = record { sound = f; free = all_hold (rules L (words L b) s) (rules_numbered L b s) e }

pub allowed_free : (L : Layout) (b : List ℕ) (s : Step) → Allowed L b s → refusal L (words L b) s ≡ 0
allowed_free L b s a = none_broken (rules L (words L b) s) a.free
