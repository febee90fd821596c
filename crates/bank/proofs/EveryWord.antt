-- The places of a layout are the words of a bank: every word has a place, and just one.
use mathlib.Core.Path.{◌≡◌, subst}
use Prim.Native.Nat.{ℕ, ◌/◌, ◌%◌, ◌<◌}
use native.Mathlib.Nat.{zero-add, div-add-mod'}
use native.Mathlib.Omega.{arith}
use borrow.Author.Tests.{eq-eqb}
use Rattle.bank.specs.Place.{Field, Place, sender, stamp, value, held, delivered, acked, unsent, in_flight, N}
use Rattle.bank.specs.Place.{mode, count, up, view, log_length, log, message}
use Rattle.bank.specs.Layout.{Layout, record_widths, record_size, bank_widths, offset, address, size}
use Rattle.bank.specs.Layout.{FieldIn, PlaceIn, PlacesAreWords}
use Rattle.bank.proofs.Regions.{end, spots, at_words, row_of}
use Rattle.bank.proofs.Places.{inside, same_address}
use Rattle.bank.proofs.Names.{one_name}

module _ (L : Layout) where
  -- the word of a record, and of the bank, that stands at word a
  abbrev FieldAt : ℕ → Type 0
  FieldAt a = (f : Field) × FieldIn L f × (offset L f ≡ a)

  abbrev PlaceAt : ℕ → Type 0
  PlaceAt a = (p : Place) × PlaceIn L p × (address L p ≡ a)

  every_field : (a : ℕ) → a < record_size L → FieldAt a
  every_field a l =
      subst FieldAt (zero-add a)
      (at_words FieldAt 0 (record_widths L)
      (spots (λ i l. (sender, omega arith, omega arith))
      (spots (λ i l. (stamp, omega arith, omega arith))
      (spots (λ i l. (value, omega arith, omega arith))
      (spots (λ i l. (held, omega arith, omega arith))
      (spots (λ i l. (delivered, omega arith, omega arith))
      (spots (λ i l. (acked i, l, omega arith))
      (spots (λ i l. (unsent i, l, omega arith)) (spots (λ i l. (in_flight i, l, omega arith)) end))))))))
      a
      l)

  every-word : (a : ℕ) → a < size L → PlaceAt a
  every-word a l =
      subst PlaceAt (zero-add a)
      (at_words PlaceAt 0 (bank_widths L)
      (spots (λ i l. (N, tt, omega arith))
      (spots (λ i l. (mode, tt, omega arith))
      (spots (λ i l. (count, tt, omega arith))
      (spots (λ i l. (up, tt, omega arith))
      (spots (λ i l. (view i, l, omega arith))
      (spots (λ i l. (log_length i, l, omega arith))
      (spots
      (λ i l. let r = row_of L.controllers L.messages i l in
      (log (i / L.messages) (i % L.messages), r, omega (arith, div-add-mod' i L.messages)))
      (spots
      (λ i l. let r = row_of L.messages (record_size L) i l in
      let g = every_field (i % record_size L) r.1 in
      (message (i / record_size L) g.0, (r.0, g.1), omega (arith, g.2, div-add-mod' i (record_size L))))
      end))))))))
      a
      l)

  pub places_are_words : PlacesAreWords L
  places_are_words =
      record {
        inside = inside L;
        every = every-word;
        one = λ p q hp hq e. one_name p q (rw (← same_address L p q hp hq) (eq-eqb _ _ e));
      }
