-- The bench's file: records of bytes, each a length, a kind and the numbers that the kind uses.
use Rattle.std.specs.Prelude.{ℕ, ◌+◌, ◌*◌, ◌%◌, Bool, cond, not, ◌&&◌, ◌||◌, List, eqb, leb, length, get_or}

-- the u16 at a place: two bytes, the low one first; 0 past the end
abbrev pub word_at : List ℕ → ℕ → ℕ
word_at s i = get_or s i 0 + 256 * get_or s (i + 1) 0

abbrev pub open_kind : ℕ
open_kind = 16

abbrev pub settle_kind : ℕ
settle_kind = 17

-- how many bytes follow the length in a record of a kind, its two-byte kind among them; 0 for an unknown kind
unfoldable pub record_length : ℕ → ℕ
record_length kind =
    cond (leb 1 kind && leb kind 3 || eqb kind 7) 8
    (cond (eqb kind 4 || eqb kind 6 || eqb kind open_kind) 6
    (cond (eqb kind 5 || eqb kind settle_kind) 4 0))

-- what stands at place i of a file: the end; a refusal; or a record with its kind, its numbers (0 where it has none)
-- and the place after it
pub data Found : Type 0 where
  end : Found
  bad : ℕ → Found
  got : ℕ → ℕ → ℕ → ℕ → ℕ → Found

-- the k-th number of the record at place i, 0 where the record is too short for it
abbrev pub number_at : List ℕ → ℕ → ℕ → ℕ
number_at s i k = cond (leb (2 + 2 * k) (word_at s i)) (word_at s (i + 2 + 2 * k)) 0

-- whether the record at place i is whole, of even length, at least 4
abbrev pub well_cut : List ℕ → ℕ → Bool
well_cut s i =
    leb (i + 2) (length s)
    && (leb (i + 2 + word_at s i) (length s) && (eqb (word_at s i % 2) 0 && leb 4 (word_at s i)))

-- a record after the first: cut short, odd or below 4 gives 13; an unknown kind or a later open 2; another length 13
unfoldable pub find_at : List ℕ → ℕ → Found
find_at s i =
    cond (leb (length s) i) end
    (cond (not (well_cut s i)) (bad 13)
    (cond (eqb (record_length (word_at s (i + 2))) 0 || eqb (word_at s (i + 2)) open_kind) (bad 2)
    (cond (eqb (word_at s i) (record_length (word_at s (i + 2))))
    (got (word_at s (i + 2)) (number_at s i 1) (number_at s i 2) (number_at s i 3) (i + 2 + word_at s i))
    (bad 13))))

-- a file is at most 65,536 bytes and begun by a whole open of length 6
unfoldable pub begun : List ℕ → Bool
begun s = leb (length s) 65536 && (leb 8 (length s) && (eqb (word_at s 0) 6 && eqb (word_at s 2) open_kind))
