-- A controller and a message that are there have a place in the layout, so every index that they make is in the bank.
use mathlib.Core.Path.{◌≡◌}
use mathlib.Core.Bool.{true}
use mathlib.Core.List.{List}
use Prim.Native.Nat.{ℕ, ◌<◌}
use native.Mathlib.Omega.{arith}
use borrow.Author.Tests.{ltb-true}
use Rattle.bank.specs.Place.{N, count}
use Rattle.bank.specs.Layout.{Layout, words}
use Rattle.bank.specs.Fit.{Fit}
use Rattle.refusals.specs.State.{is_controller, is_message}
use Rattle.refusals.proofs.Granted.{Ends}

-- two controllers and a message
pub record EndsIn (L : Layout) (i j m : ℕ) : Type 0 where
  pub first : i < L.controllers
  pub second : j < L.controllers
  pub message : m < L.messages

module _ (L : Layout) (b : List ℕ) (f : Fit L b) where
  pub controller_below : (i : ℕ) → is_controller (words L b) i ≡ true → i < L.controllers
  controller_below i h = omega (arith, ltb-true i (words L b N) h, f.few)

  pub message-below : (m : ℕ) → is_message (words L b) m ≡ true → m < L.messages
  message-below m h = omega (arith, ltb-true m (words L b count) h, f.given)

  pub ends-below : {i j m : ℕ} → Ends (words L b) i j m → EndsIn L i j m
  ends-below {i} {j} {m} e =
      record {
        first = controller_below i e.first;
        second = controller_below j e.second;
        message = message-below m e.given;
      }
