-- A list of records, one record at a time: how the answer from a record on goes over that record's four words, from the
-- answer of the whole list to the answer past its end. It rests on the definitions and on laws of `lists`. The proof of
-- run_steps has from here, by the laws `records_..`, all that its loop knows of answers.
use mathlib.Core.Path.{◌≡◌, refl}
use mathlib.Core.Bool.{true}
use mathlib.Core.List.{List, [], ◌∷◌}
use Prim.Native.Nat.{ℕ, ◌+◌, ◌%◌, ◌≤◌, ◌<◌}
use native.Mathlib.Numerals.{add-one}
use native.Mathlib.Omega.{arith}
use lib.ListN.{length, get_or, drop, drop_of_length-le}
use lib.Seq.{drop-cons}
use Rattle.bank.specs.Layout.{Layout}
use Rattle.bank.specs.Fit.{fit}
use Rattle.refusals.specs.Step.{Asked, ask}
use Rattle.group.specs.Promises.{StepPromise}
use Rattle.lists.specs.Lists.{outcome, run_from, run_of}
use Rattle.lists.proofs.StepByStep.{run_begins, run_more, run_stop, run_unfit}
use Rattle.step_records.specs.Records.{flat}

-- four words a record: no word is left over
flat-whole : (ss : List Asked) → length (flat ss) % 4 ≡ 0
unfolding flat
flat-whole [] = refl
flat-whole (s ∷ ss) = omega (arith, flat-whole ss)

-- the numbers by which a record asks for a step
abbrev pub asked_by : Asked → Asked
asked_by s = ask s.kind s.a s.b s.c

-- the records from the i-th on, as words
abbrev from_here : List Asked → ℕ → Asked → List ℕ
from_here ss i d = (get_or ss i d).kind ∷ (get_or ss i d).a ∷ (get_or ss i d).b ∷ (get_or ss i d).c
    ∷ flat (drop (i + 1) ss)

next_record : (ss : List Asked) (i : ℕ) (d : Asked) → i < length ss → flat (drop i ss) ≡ from_here ss i d
unfolding flat
next_record ss i d h = rw (add-one, drop-cons ss i d)

-- the step of record i gave back r and left the words b': its refusal ends the list, or the next record is at hand
module _ (L : Layout) (b : List ℕ) (ss : List Asked) (i : ℕ) (d : Asked) (r : ℕ) (b' : List ℕ) (h : i < length ss)
    (p : StepPromise L b (asked_by (get_or ss i d)) r b') where
  pub records_stop : (r ≡ 0 → ⊥) → run_from L i b (flat (drop i ss)) ≡ outcome i r b'
  records_stop z = rw (next_record ss i d) (run_stop L i b _ _ _ _ _ r b' p z)

  pub records_more : r ≡ 0 → run_from L i b (flat (drop i ss)) ≡ run_from L (i + 1) b' (flat (drop (i + 1) ss))
  records_more z = rw (next_record ss i d) (run_more L i b _ _ _ _ _ r b' p z)

-- where no record is left, and where none is applied yet
module _ (L : Layout) (b : List ℕ) (ss : List Asked) where
  pub records_end : (i : ℕ) → length ss ≤ i → run_from L i b (flat (drop i ss)) ≡ outcome i 0 b
  unfolding flat run_from
  records_end i h = rw drop_of_length-le

  pub records_begin : fit L b ≡ true → run_of L b (flat ss) ≡ run_from L 0 b (flat (drop 0 ss))
  records_begin f = run_begins L b (flat ss) f (flat-whole ss)

-- what run_steps goes by, but for the record that ends a list
pub ruleset by_record = (run_unfit, records_begin, records_more, records_end)
