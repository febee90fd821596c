-- No two places of a layout are one word, and each lies in the bank: for every layout at once.
use mathlib.Core.Path.{◌≡◌, refl, sym, ap, ap₂, subst, ◌∙◌}
use mathlib.Core.Bool.{Bool, true, false, ◌&&◌, false≢true}
use mathlib.Core.List.{List, [], ◌∷◌}
use Prim.Native.Nat.{ℕ, ◌+◌, ◌-◌, ◌*◌, ◌≤◌, ◌<◌}
use native.Mathlib.Nat.{add-zero, suc-mul, mul-le-mul_right}
use native.Mathlib.Omega.{arith}
use lib.Dec.{eqb}
use lib.ListN.{get_or, length}
use lib.Arith.{digits_lt}
use borrow.Author.Tests.{eq-eqb, ne_eqb, eqb-true}
use Rattle.sets.proofs.Tests.{both}
use Rattle.bank.specs.Place.{Field, Place, sender, stamp, value, held, delivered, acked, unsent, in_flight, N}
use Rattle.bank.specs.Place.{mode, count, up, view, log_length, log, message}
use Rattle.bank.specs.Layout.{Layout, start, record_widths, record_size, bank_widths}
use Rattle.bank.specs.Layout.{offset, record_at, address, size, region_in, index, FieldIn, PlaceIn}
use Rattle.bank.proofs.Regions.{start-below, in_regions, one_spot, one_row}

-- ---- a name as four numbers: the region of the bank, the run of words in its row, the index in the run, the row

pub record Key : Type 0 where
  pub region : ℕ
  pub run : ℕ
  pub index : ℕ
  pub row : ℕ

abbrev key4 : ℕ → ℕ → ℕ → ℕ → Key
key4 r n i k = record { region = r; run = n; index = i; row = k }

abbrev pub key : Place → Key
key N = key4 0 0 0 0
key mode = key4 1 0 0 0
key count = key4 2 0 0 0
key up = key4 3 0 0 0
key (view i) = key4 4 0 i 0
key (log_length i) = key4 5 0 i 0
key (log i k) = key4 6 0 k i
key (message m f) = key4 7 (region_in f) (index f) m

-- whether two names are one place
abbrev pub same_field : Field → Field → Bool
same_field f g = eqb (region_in f) (region_in g) && eqb (index f) (index g)

abbrev pub same_place : Place → Place → Bool
same_place p q =
    eqb (key p).region (key q).region
    && (eqb (key p).run (key q).run && (eqb (key p).index (key q).index && eqb (key p).row (key q).row))

-- ---- a place's address by its key

module _ (L : Layout) where
  -- how many words each run of a row has, region by region
  abbrev runs : ℕ → List ℕ
  runs r =
      get_or
      ((1 ∷ []) ∷ (1 ∷ []) ∷ (1 ∷ []) ∷ (1 ∷ []) ∷ (L.controllers ∷ []) ∷ (L.controllers ∷ []) ∷
      (L.messages ∷ []) ∷ record_widths L ∷ [])
      r []

  abbrev row_size : ℕ → ℕ
  row_size r = start (length (runs r)) (runs r)

  -- where a key stands within its region
  abbrev within : Key → ℕ
  within k = k.row * row_size k.region + (start k.run (runs k.region) + k.index)

  offset_key : (f : Field) → offset L f ≡ start (region_in f) (record_widths L) + index f
  offset_key sender = refl
  offset_key stamp = refl
  offset_key value = refl
  offset_key held = refl
  offset_key delivered = refl
  offset_key (acked i) = refl
  offset_key (unsent i) = refl
  offset_key (in_flight i) = refl

  address_key : (p : Place) → address L p ≡ start (key p).region (bank_widths L) + within (key p)
  address_key N = refl
  address_key mode = refl
  address_key count = refl
  address_key up = refl
  address_key (view i) = omega arith
  address_key (log_length i) = omega arith
  address_key (log i k) = omega (arith, ap (λ x. i * x) (add-zero L.messages))
  address_key (message m f) = omega (arith, offset_key f)

  -- ---- what stands in range

  pub offset-below : (f : Field) → FieldIn L f → offset L f < record_size L
  offset-below f h = rw offset_key (start-below (record_widths L) (region_in f) 8 (index f) (region_below f) h)
    where
      region_below : (f : Field) → region_in f < 8
      region_below sender = omega arith
      region_below stamp = omega arith
      region_below value = omega arith
      region_below held = omega arith
      region_below delivered = omega arith
      region_below (acked i) = omega arith
      region_below (unsent i) = omega arith
      region_below (in_flight i) = omega arith

  in_run : (p : Place) → PlaceIn L p → (key p).index < get_or (runs (key p).region) (key p).run 0
  in_run N h = omega arith
  in_run mode h = omega arith
  in_run count h = omega arith
  in_run up h = omega arith
  in_run (view i) h = h
  in_run (log_length i) h = h
  in_run (log i k) h = omega arith
  in_run (message m f) h = h.1

  in_region : (p : Place) → PlaceIn L p → within (key p) < get_or (bank_widths L) (key p).region 0
  in_region N h = omega arith
  in_region mode h = omega arith
  in_region count h = omega arith
  in_region up h = omega arith
  in_region (view i) h = omega arith
  in_region (log_length i) h = omega arith
  in_region (log i k) h =
      let l : k < L.messages = in_run (log i k) h in
      omega (arith, ap (λ x. i * x) (add-zero L.messages), digits_lt {q = i} {r = k} h.0 l)
  in_region (message m f) h =
      omega (arith, offset_key f, digits_lt {q = m} {m = L.messages} h.0 (offset-below f h.1))

  pub inside : (p : Place) → PlaceIn L p → address L p < size L
  inside p h = rw address_key (start-below (bank_widths L) (key p).region 8 (within (key p)) (region_below p)
      (in_region p h))
    where
      region_below : (p : Place) → (key p).region < 8
      region_below N = omega arith
      region_below mode = omega arith
      region_below count = omega arith
      region_below up = omega arith
      region_below (view i) = omega arith
      region_below (log_length i) = omega arith
      region_below (log i k) = omega arith
      region_below (message m f) = omega arith

  -- a record ends in the bank
  pub record_inside : (m : ℕ) → m < L.messages → record_at L m + record_size L ≤ size L
  record_inside m h =
      let last : record_size L - 1 < record_size L = omega arith in
      omega (arith, digits_lt {q = m} {m = L.messages} {r = record_size L - 1} h last)

  -- a used part of a log ends in the bank
  pub log-within : (i k : ℕ) → i < L.controllers → k ≤ L.messages → address L (log i k) ≤ size L
  log-within i k h l = omega (arith, suc-mul i L.messages, mul-le-mul_right L.messages h)

  -- ---- two places of one address

  -- where the run, index and row of a key would stand in region r
  within_at : ℕ → Key → ℕ
  within_at r k = k.row * row_size r + (start k.run (runs r) + k.index)

  SameKey : Key → Key → Type 0
  SameKey j k = (j.region ≡ k.region) × (j.run ≡ k.run) × (j.index ≡ k.index) × (j.row ≡ k.row)

  one_key : (p q : Place) → PlaceIn L p → PlaceIn L q → address L p ≡ address L q → SameKey (key p) (key q)
  unfolding SameKey within_at
  one_key p q hp hq e =
      let a =
      one_spot (bank_widths L) (key p).region (key q).region (within (key p)) (within (key q)) (in_region p hp)
      (in_region q hq)
      (sym (address_key p) ∙ e ∙ address_key q) in
      let r : ℕ = (key q).region in
      let ip : (key p).index < get_or (runs r) (key p).run 0 =
      subst (λ x. (key p).index < get_or (runs x) (key p).run 0) a.0 (in_run p hp) in
      let iq : (key q).index < get_or (runs r) (key q).run 0 = in_run q hq in
      let b =
      one_row (key p).row (key q).row _ _ (row_size r) (in_row r (key p).run (key p).index ip)
      (in_row r (key q).run (key q).index iq) (ap (λ x. within_at x (key p)) (sym a.0) ∙ a.1) in
      let c = one_spot (runs r) (key p).run (key q).run (key p).index (key q).index ip iq b.1 in
      (a.0, c.0, c.1, b.0)
    where
      in_row : (r n i : ℕ) → i < get_or (runs r) n 0 → start n (runs r) + i < row_size r
      in_row r n i h = start-below (runs r) n (length (runs r)) i (in_regions (runs r) n i h) h

  one_address : (p q : Place) → SameKey (key p) (key q) → address L p ≡ address L q
  unfolding SameKey within_at
  one_address p q h =
      address_key p
      ∙ ap₂ (λ x y. start x (bank_widths L) + y) h.0
      (ap (λ x. within_at x (key p)) h.0
      ∙ ap₂ (λ x y. x * row_size (key q).region + y) h.3
      (ap₂ (λ x y. start x (runs (key q).region) + y) h.1 h.2))
      ∙ sym (address_key q)

  -- a test that holds just where two numbers are equal is their comparison
  is_eqb : (x y : ℕ) (t : Bool) → (x ≡ y → t ≡ true) → (t ≡ true → x ≡ y) → eqb x y ≡ t
  is_eqb x y true f g = eq-eqb x y (g refl)
  is_eqb x y false f g = ne_eqb x y (λ e. false≢true (f e))

  pub same_address : (p q : Place) → PlaceIn L p → PlaceIn L q → eqb (address L p) (address L q) ≡ same_place p q
  unfolding SameKey
  same_address p q hp hq =
      is_eqb (address L p) (address L q) (same_place p q)
      (λ e. let k = one_key p q hp hq e in rw (
        eq-eqb _ _ k.0,
        eq-eqb _ _ k.1,
        eq-eqb _ _ k.2,
        eq-eqb _ _
            k.3,
      ) refl)
      (λ t. let a = both _ _ t in let b = both _ _ a.1 in let c = both _ _ b.1 in
      one_address p q (eqb-true _ _ a.0, eqb-true _ _ b.0, eqb-true _ _ c.0, eqb-true _ _ c.1))
