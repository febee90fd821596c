-- Numbers as the bench prints them, in ASCII bytes, and what printing does to a lent buffer.
use Rattle.std.specs.Prelude.{ℕ, zero, suc, ◌+◌, ◌-◌, ◌/◌, ◌%◌, ◌^◌, ◌≡◌, cond, List, [], ◌∷◌, ◌++◌, ltb, min}
use Rattle.std.specs.List.{fold}
use lib.ListN.{set}
use Rattle.report.specs.declared.text.Printer.{Printer}

-- a number in decimal, without leading zeros; d digits at the most are looked at, and ten are enough for any u32
unfoldable pub decimal_in : ℕ → ℕ → List ℕ
decimal_in zero x = []
decimal_in (suc d) x = cond (ltb x 10) [] (decimal_in d (x / 10)) ++ ((48 + x % 10) ∷ [])

abbrev pub decimal : ℕ → List ℕ
decimal x = decimal_in 10 x

-- a hex digit in capitals, and a word in four of them
abbrev pub hex_digit : ℕ → ℕ
hex_digit x = cond (ltb x 10) (48 + x) (55 + x)

abbrev pub hex : ℕ → List ℕ
hex w = hex_digit (w / 4096 % 16) ∷ hex_digit (w / 256 % 16) ∷ hex_digit (w / 16 % 16) ∷ hex_digit (w % 16) ∷ []

-- a lent buffer, and the place in it at which printing goes on
pub record Page : Type 0 where
  pub bytes : List ℕ
  pub place : ℕ

-- a byte is stored at the place, as far as the buffer reaches; the place goes on by one, up to the greatest usize
abbrev pub put : Page → ℕ → Page
put p b = record { bytes = set p.bytes p.place b; place = min (p.place + 1) (2 ^ 64 - 1) }

abbrev pub page : Printer → Page
page p = record { bytes = p.out.now; place = p.place }

-- a text is printed byte by byte, into the same buffer
pub record Prints (p : Printer) (text : List ℕ) (q : Printer) : Type 0 where
  pub same : q.out.ghost_name ≡ p.out.ghost_name
  pub leaves : page q ≡ fold put (page p) text
