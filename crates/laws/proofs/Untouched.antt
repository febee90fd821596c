-- What a step leaves alone, said by kind of place: a word whose place a step does not write is as it was.
use mathlib.Core.Path.{◌≡◌, refl, ap, ◌∙◌}
use mathlib.Core.Bool.{Bool, true, not, ◌&&◌, ◌||◌}
use mathlib.Core.List.{List}
use Prim.Native.Nat.{ℕ}
use lib.Dec.{eqb, ltb}
use borrow.Author.Tests.{eq-eqb}
use Rattle.bank.specs.Place.{Place, Words, record_of, N, count}
use Rattle.bank.specs.Layout.{Layout, words, in_record, PlaceIn}
use Rattle.refusals.specs.Step.{Step, broadcast, send, receive, deliver, crash, detect, lose}
use Rattle.group.specs.Writes.{fresh_record, writes}
use Rattle.refusals.specs.Promises.{Allowed}
use Rattle.group.specs.Promises.{after}
use Rattle.bank.proofs.Places.{Key, key}
use Rattle.bank.proofs.Names.{Aside, aside_append, record_aside, later_aside}
use Rattle.group.proofs.WritesIn.{word_after}

-- ---- what each step leaves alone

abbrev in_header : Key → Bool
in_header k = eqb k.region 0 || eqb k.region 1

abbrev is_count : Key → Bool
is_count k = eqb k.region 2

-- the lengths and the logs
abbrev in_logs : Key → Bool
in_logs k = eqb k.region 5 || eqb k.region 6

-- of a record, its sender, stamp and value, and the set of those that have delivered it
abbrev is_said : Key → Bool
is_said k = eqb k.region 7 && ltb k.run 3

abbrev is_delivered : Key → Bool
is_delivered k = eqb k.region 7 && eqb k.run 4

-- all that these laws follow
abbrev pub steady : Key → Bool
steady k = is_count k || (in_logs k || (is_said k || is_delivered k))

-- whether a step leaves the places of a key alone
abbrev pub spares : Words → Step → Key → Bool
spares w (broadcast who s v) k = not (is_count k || (eqb k.region 7 && eqb k.row (w count)))
spares w (send from to m) k = steady k
spares w (receive i from m) k = steady k
spares w (deliver i m) k = not (in_logs k || is_delivered k)
spares w (crash who) k = steady k
spares w (detect i j) k = steady k
spares w (lose from to m) k = steady k

-- no step changes the number of controllers or the mode
abbrev pub keeps : Words → Step → Key → Bool
keeps w s k = in_header k || spares w s k

module _ (L : Layout) where
  writes_aside : (w : Words) (s : Step) → Aside (keeps w s) (writes L w s)
  writes_aside w (broadcast who s v) =
      let new = fresh_record L (w N) who s v (record_of w (w count)) in
      let other = keeps w (broadcast who s v) in
      aside_append other (in_record (w count) new) _
      (record_aside other (w count) new (λ f. ap not (eq-eqb (w count) (w count) refl)))
      (refl, tt)
  writes_aside w (send from to m) = (refl, (refl, tt))
  writes_aside w (receive i from m) = (refl, (refl, (refl, (refl, tt))))
  writes_aside w (deliver i m) = (refl, (refl, (refl, tt)))
  writes_aside w (crash who) = (refl, tt)
  writes_aside w (detect i j) = (refl, tt)
  writes_aside w (lose from to m) = (refl, tt)

  -- a place that a step leaves alone holds what it held
  pub untouched : (b : List ℕ) (s : Step) → Allowed L b s → (p : Place) → PlaceIn L p
      → keeps (words L b) s (key p) ≡ true → words L (after L b s) p ≡ words L b p
  untouched b s a p h k =
      word_after L b s a p h
      ∙ later_aside (keeps (words L b) s) (writes L (words L b) s) p (words L b p) (writes_aside (words L b) s) k
