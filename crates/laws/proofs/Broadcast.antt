-- A broadcast, word by word: the next record is as a message just broadcast, and there is one message more.
use mathlib.Core.Path.{◌≡◌, ap, subst, ◌∙◌}
use mathlib.Core.List.{List, map}
use Prim.Native.Nat.{ℕ, ◌+◌}
use borrow.Author.Tests.{ltb-true}
use Rattle.bank.specs.Place.{Field, ◌≔◌, N, count, message}
use Rattle.bank.specs.Layout.{Layout, words, fields, in_record, FieldIn, PlaceIn}
use Rattle.refusals.specs.Step.{broadcast}
use Rattle.group.specs.Writes.{fresh}
use Rattle.refusals.specs.Promises.{Allowed}
use Rattle.group.specs.Promises.{after}
use Rattle.laws.specs.Above.{RecordRewritten}
use Rattle.bank.proofs.Reading.{later_append}
use Rattle.refusals.proofs.Granted.{broadcast_granted}
use Rattle.group.proofs.WritesIn.{word_after}
use Rattle.laws.proofs.Whole.{record_word}

module _ (L : Layout) (b : List ℕ) (who s v : ℕ) (a : Allowed L b (broadcast who s v)) where
  pub new_word : (f : Field) → FieldIn L f
      → words L (after L b (broadcast who s v)) (message (words L b count) f) ≡ fresh (words L b N) who s v f
  new_word f h =
      let c : ℕ = words L b count in
      let g : Field → ℕ = fresh (words L b N) who s v in
      let room = (broadcast_granted L (words L b) s v a.free).room in
      word_after L b (broadcast who s v) a (message c f) (ltb-true c L.messages room, h)
      ∙ later_append (in_record c (map (λ f. f ≔ g f) (fields L))) _ (message c f) _
      ∙ record_word L c g f _ h

  pub one_more : words L (after L b (broadcast who s v)) count ≡ words L b count + 1
  one_more =
      let c : ℕ = words L b count in
      let g : Field → ℕ = fresh (words L b N) who s v in
      word_after L b (broadcast who s v) a count tt
      ∙ later_append (in_record c (map (λ f. f ≔ g f) (fields L))) _ count _

pub record_rewritten : (L : Layout) → RecordRewritten L
record_rewritten L b s a p h z =
    let asked : Allowed L b (broadcast z.0 z.1 z.2) = subst (Allowed L b) z.4 a in
    let here : PlaceIn L (message (words L b count) z.3) = subst (PlaceIn L) z.5 h in
    ap (λ s. words L (after L b s) p) z.4
    ∙ ap (words L (after L b (broadcast z.0 z.1 z.2))) z.5
    ∙ new_word L b z.0 z.1 z.2 asked z.3 here.1
