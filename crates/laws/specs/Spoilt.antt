-- Settling ends on every fit bank, spoilt ones too: those with sets or logs that no opened group comes to.
use Rattle.std.specs.Prelude.{ℕ, ◌≤◌, ◌≡◌, Bool, true, List, length}
use Rattle.bank.specs.Place.{N, count}
use Rattle.bank.specs.Layout.{Layout, layout, words}
use Rattle.bank.specs.Fit.{Fit}
use Rattle.refusals.specs.Step.{Step}
use Rattle.refusals.specs.Promises.{Allowed}
use Rattle.group.specs.Promises.{after}
use Rattle.settler.specs.Settling.{settle_of, SettlePromise}
use Rattle.loargwen.specs.Face.{SettleBytes}
use Rattle.laws.specs.Runs.{Run, Settling, most_of_any}

pub record AlwaysEnds : Type 0 where
  -- sends, receipts, detects and deliveries, in any order: never more than this
  pub bounded : (L : Layout) (b : List ℕ) (es : List Step) (x : List ℕ)
      → Run (Settling (Allowed L)) (after L) b es x → length es ≤ most_of_any (words L b N) (words L b count)
  -- so with a budget of that much the settler leaves none of them
  pub enough : (L : Layout) (b : List ℕ) → Fit L b → (d : ℕ) → most_of_any (words L b N) (words L b count) ≤ d
      → (settle_of L b d).quiet ≡ true
  -- fewer controllers or messages never make it more; for 16 and 32 it is 41,712
  pub rises : (n n' c c' : ℕ) → n ≤ n' → c ≤ c' → most_of_any n c ≤ most_of_any n' c'
  pub fullest : most_of_any 16 32 ≡ 41712
  -- so the largest u16 is budget enough for every bank of either size
  pub u16_always_enough : (room : Bool) (b : List ℕ) → Fit (layout room) b
      → (settle_of (layout room) b 65535).quiet ≡ true
  -- as a caller sees it: a settle with that budget that answers 0 has taken at most 41,712 steps, and none is left
  pub one_call : (room : Bool) (b b' : List ℕ) (r k : ℕ) (q : Bool) → SettlePromise (layout room) b 65535 r k q b'
      → r ≡ 0 → (k ≤ 41712) × (q ≡ true)
  -- and the same from C, where quiet is 1
  pub one-c_call : (bytes new : List ℕ) (r k q : ℕ) → SettleBytes bytes 65535 r k q new
      → r ≡ 0 → (k ≤ 41712) × (q ≡ 1)
