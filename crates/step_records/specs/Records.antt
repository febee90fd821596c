-- A list of step records: the same as their words, four a step, in a flat list.
use Rattle.std.specs.Prelude.{ℕ, ◌≡◌, List, [], ◌∷◌}
use Rattle.bank.specs.Layout.{paper}
use Rattle.lists.specs.Lists.{outcome, run_of}
use Rattle.refusals.specs.Step.{Asked}

-- the words of the records, one after another
unfoldable pub flat : List Asked → List ℕ
flat [] = []
flat (s ∷ ss) = s.kind ∷ s.a ∷ s.b ∷ s.c ∷ flat ss

-- the answers of the flat form on the same steps
abbrev pub StepsPromise : List ℕ → List Asked → ℕ → ℕ → List ℕ → Type 0
StepsPromise b steps n r b' = outcome n r b' ≡ run_of paper b (flat steps)
