-- Demand 2 of the call itself: what the rules allow is done, with its writes and no other; what is done was allowed.
use Rattle.std.specs.Prelude.{ℕ, ◌≡◌, List}
use Rattle.std.proofs.Math.Option.{some}
use Rattle.bank.specs.Layout.{Layout}
use Rattle.bank.specs.Opening.{answer}
use Rattle.refusals.specs.Step.{Step, Asked, asked}
use Rattle.refusals.specs.Promises.{Allowed}
use Rattle.group.specs.Promises.{after, step_of}

-- of one call of step, on any bank and with any numbers
pub record Demand2 (L : Layout) (b : List ℕ) (x : Asked) : Type 0 where
  -- "a step that the rules allow is never refused"
  pub allowed_done : (s : Step) → asked x ≡ some s → Allowed L b s
      → step_of L b x ≡ answer 0 (after L b s)
  -- "Each accepted step does exactly what .. says": where 0 is answered, one step was asked for and allowed
  pub done_allowed : (step_of L b x).refusal ≡ 0
      → (s : Step)
      × (asked x ≡ some s)
      × Allowed L b s
      × (step_of L b x ≡ answer 0 (after L b s))
