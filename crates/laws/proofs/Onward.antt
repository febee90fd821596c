-- Runs of any steps: two that follow one another are one. Which kinds of step settle, and runs of those.
use mathlib.Core.Path.{◌≡◌, refl}
use mathlib.Core.Bool.{true, false≢true}
use mathlib.Core.List.{List, ◌++◌}
use Prim.Native.Nat.{ℕ}
use native.Mathlib.Omega.{arith}
use lib.ListN.{length}
use Rattle.refusals.specs.Step.{Step, broadcast, send, receive, deliver, crash, detect, lose}
use Rattle.laws.specs.Runs.{Run, done, next, Settling, settles, settlings}

pub go_on : {S E : Type 0} {allows : S → E → Type 0} {act : S → E → S} {s t u : S} {ds es : List E}
    → Run allows act s ds t → Run allows act t es u → Run allows act s (ds ++ es) u
go_on done q = q
go_on (next o r) q = next o (go_on r q)

-- the four kinds that settle, and no other
pub data SettlingKind : Step → Type 0 where
  sends : {from to m : ℕ} → SettlingKind (send from to m)
  receives : {i from m : ℕ} → SettlingKind (receive i from m)
  delivers : {i m : ℕ} → SettlingKind (deliver i m)
  detects : {i j : ℕ} → SettlingKind (detect i j)

pub kind_of : (e : Step) → settles e ≡ true → SettlingKind e
kind_of (broadcast who stamp value) h = absurd (false≢true h)
kind_of (send from to m) h = sends
kind_of (receive i from m) h = receives
kind_of (deliver i m) h = delivers
kind_of (crash who) h = absurd (false≢true h)
kind_of (detect i j) h = detects
kind_of (lose from to m) h = absurd (false≢true h)

module _ {S : Type 0} {allows : S → Step → Type 0} {act : S → Step → S} where
  pub plain_run : {s t : S} {es : List Step} → Run (Settling allows) act s es t → Run allows act s es t
  plain_run done = done
  plain_run (next o r) = next o.1 (plain_run r)

  -- each of its steps settles
  pub all_settle : {s t : S} {es : List Step} → Run (Settling allows) act s es t → settlings es ≡ length es
  all_settle done = refl
  all_settle (next (e, a) r) = rw e (omega (arith, all_settle r))
