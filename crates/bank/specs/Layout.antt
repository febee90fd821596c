-- Where each word stands. A layout is two numbers; every address follows from them as regions laid one after another.
use Rattle.std.specs.Prelude.{ℕ, zero, suc, ◌+◌, ◌*◌, ◌<◌, ◌≡◌, Bool, true, false, List, [], ◌∷◌, ◌++◌}
use Rattle.std.specs.Prelude.{map, get_or, set, take, drop}
use Rattle.bank.specs.Place.{Field, Place, Words, Record, Write, ◌≔◌, sender, stamp, value, held, delivered}
use Rattle.bank.specs.Place.{acked, unsent, in_flight, N, mode, count, up, view, log_length, log, message}

-- for how many controllers and how many messages a bank has room
pub record Layout : Type 0 where
  pub controllers : ℕ
  pub messages : ℕ

-- the bank of the paper, and the smaller one of the seedling rack
abbrev pub paper : Layout
paper = record { controllers = 16; messages = 32 }

abbrev pub rack : Layout
rack = record { controllers = 4; messages = 8 }

-- by a size's `room`, which tells the two apart
abbrev pub layout : Bool → Layout
layout false = paper
layout true = rack

-- where region r begins, given how many words each region has
abbrev pub start : ℕ → List ℕ → ℕ
start zero widths = 0
start (suc r) [] = 0
start (suc r) (w ∷ widths) = w + start r widths

-- ---- a record: eight regions

abbrev pub record_widths : Layout → List ℕ
record_widths L = 1 ∷ 1 ∷ 1 ∷ 1 ∷ 1 ∷ L.controllers ∷ L.controllers ∷ L.controllers ∷ []

-- where each word stands in its record
abbrev pub offset : Layout → Field → ℕ
offset L sender = start 0 (record_widths L)
offset L stamp = start 1 (record_widths L)
offset L value = start 2 (record_widths L)
offset L held = start 3 (record_widths L)
offset L delivered = start 4 (record_widths L)
offset L (acked i) = start 5 (record_widths L) + i
offset L (unsent i) = start 6 (record_widths L) + i
offset L (in_flight i) = start 7 (record_widths L) + i

abbrev pub record_size : Layout → ℕ
record_size L = start 8 (record_widths L)

-- k numbers from i on
abbrev pub up_from : ℕ → ℕ → List ℕ
up_from i zero = []
up_from i (suc k) = i ∷ up_from (suc i) k

-- all words of a record, in the order in which they stand
unfoldable pub fields : Layout → List Field
fields L =
    sender
    ∷ stamp
    ∷ value
    ∷ held
    ∷ delivered
    ∷ map acked (up_from 0 L.controllers)
    ++ (map unsent (up_from 0 L.controllers) ++ map in_flight (up_from 0 L.controllers))

-- ---- a bank: eight regions, of which the last two are tables

abbrev pub bank_widths : Layout → List ℕ
bank_widths L =
    1
    ∷ 1
    ∷ 1
    ∷ 1
    ∷ L.controllers
    ∷ L.controllers
    ∷ L.controllers * L.messages
    ∷ L.messages * record_size L
    ∷ []

-- where message m's record begins, and where each word stands in the bank
abbrev pub record_at : Layout → ℕ → ℕ
record_at L m = start 7 (bank_widths L) + m * record_size L

abbrev pub address : Layout → Place → ℕ
address L N = start 0 (bank_widths L)
address L mode = start 1 (bank_widths L)
address L count = start 2 (bank_widths L)
address L up = start 3 (bank_widths L)
address L (view i) = start 4 (bank_widths L) + i
address L (log_length i) = start 5 (bank_widths L) + i
address L (log i k) = (start 6 (bank_widths L) + i * L.messages) + k
address L (message m f) = record_at L m + offset L f

-- how many words a bank has: 2,244 for the paper's
abbrev pub size : Layout → ℕ
size L = start 8 (bank_widths L)

-- ---- the places that a layout has

-- in which region of its record a word stands, and where there
abbrev pub region_in : Field → ℕ
region_in sender = 0
region_in stamp = 1
region_in value = 2
region_in held = 3
region_in delivered = 4
region_in (acked i) = 5
region_in (unsent i) = 6
region_in (in_flight i) = 7

abbrev pub index : Field → ℕ
index sender = 0
index stamp = 0
index value = 0
index held = 0
index delivered = 0
index (acked i) = i
index (unsent i) = i
index (in_flight i) = i

abbrev pub FieldIn : Layout → Field → Type 0
FieldIn L f = index f < get_or (record_widths L) (region_in f) 0

abbrev pub PlaceIn : Layout → Place → Type 0
PlaceIn L N = Unit {0}
PlaceIn L mode = Unit {0}
PlaceIn L count = Unit {0}
PlaceIn L up = Unit {0}
PlaceIn L (view i) = i < L.controllers
PlaceIn L (log_length i) = i < L.controllers
PlaceIn L (log i k) = (i < L.controllers) × (k < L.messages)
PlaceIn L (message m f) = (m < L.messages) × FieldIn L f

-- they are the words of a bank: each of them is a word, every word is one of them, and no two are one word
pub record PlacesAreWords (L : Layout) : Type 0 where
  pub inside : (p : Place) → PlaceIn L p → address L p < size L
  pub every : (a : ℕ) → a < size L → (p : Place) × PlaceIn L p × (address L p ≡ a)
  pub one : (p q : Place) → PlaceIn L p → PlaceIn L q → address L p ≡ address L q → p ≡ q

-- ---- reading and writing by name, where `at` says the place of each name

module _ {A : Type 0} (at : A → ℕ) where
  abbrev pub look : List ℕ → A → ℕ
  look b p = get_or b (at p) 0

  abbrev pub puts : List ℕ → List (Write A) → List ℕ
  puts b [] = b
  puts b (x ∷ xs) = puts (set b (at x.at) x.word) xs

abbrev pub words : Layout → List ℕ → Words
words L b = look (address L) b

-- writes to one record are writes to the bank
abbrev pub in_record : ℕ → List (Write Field) → List (Write Place)
in_record m xs = map (λ (x : Write Field). message m x.at ≔ x.word) xs

-- a record's words with a change that rests on them as they were
abbrev pub changed : Layout → (Record → List (Write Field)) → List ℕ → List ℕ
changed L change r = puts (offset L) r (change (look (offset L) r))

-- a record's words as they stand in the bank, and the bank with others in their place
abbrev pub record_words : Layout → List ℕ → ℕ → List ℕ
record_words L b m = take (record_size L) (drop (record_at L m) b)

abbrev pub with_record : Layout → List ℕ → ℕ → List ℕ → List ℕ
with_record L b m r = take (record_at L m) b ++ (r ++ drop (record_size L) (drop (record_at L m) b))
