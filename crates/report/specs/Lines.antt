-- The lines that the bench prints of a bank: the group, each message, each controller. Each line ends in LF.
use Rattle.std.specs.Prelude.{ℕ, Bool, cond, List, [], ◌∷◌, ◌++◌}
use Rattle.sets.specs.Set.{has}
use Rattle.bank.specs.Place.{N, mode, count, up, message, sender, stamp, value, held, delivered}
use Rattle.bank.specs.Layout.{paper, words, up_from}
use Rattle.lists.specs.Logs.{log_of}
use Rattle.report.specs.Text.{decimal, hex}

-- ---- the words of the lines, in ASCII, with the blanks around them

-- " "
abbrev pub blank : List ℕ
blank = 32 ∷ []

abbrev pub newline : List ℕ
newline = 10 ∷ []

-- "group "
abbrev pub say_group : List ℕ
say_group = 103 ∷ 114 ∷ 111 ∷ 117 ∷ 112 ∷ 32 ∷ []

-- "msg "
abbrev pub say_msg : List ℕ
say_msg = 109 ∷ 115 ∷ 103 ∷ 32 ∷ []

-- " from "
abbrev pub say_from : List ℕ
say_from = 32 ∷ 102 ∷ 114 ∷ 111 ∷ 109 ∷ 32 ∷ []

-- " at "
abbrev pub say_at : List ℕ
say_at = 32 ∷ 97 ∷ 116 ∷ 32 ∷ []

-- " value "
abbrev pub say_value : List ℕ
say_value = 32 ∷ 118 ∷ 97 ∷ 108 ∷ 117 ∷ 101 ∷ 32 ∷ []

-- " held "
abbrev pub say_held : List ℕ
say_held = 32 ∷ 104 ∷ 101 ∷ 108 ∷ 100 ∷ 32 ∷ []

-- " delivered "
abbrev pub say_delivered : List ℕ
say_delivered = 32 ∷ 100 ∷ 101 ∷ 108 ∷ 105 ∷ 118 ∷ 101 ∷ 114 ∷ 101 ∷ 100 ∷ 32 ∷ []

-- "ctl "
abbrev pub say_ctl : List ℕ
say_ctl = 99 ∷ 116 ∷ 108 ∷ 32 ∷ []

-- " up log"
abbrev pub say_up_log : List ℕ
say_up_log = 32 ∷ 117 ∷ 112 ∷ 32 ∷ 108 ∷ 111 ∷ 103 ∷ []

-- " down log"
abbrev pub say_down_log : List ℕ
say_down_log = 32 ∷ 100 ∷ 111 ∷ 119 ∷ 110 ∷ 32 ∷ 108 ∷ 111 ∷ 103 ∷ []

-- "end "
abbrev pub say_end : List ℕ
say_end = 101 ∷ 110 ∷ 100 ∷ 32 ∷ []

-- ---- parts of lines

-- a log's numbers, each after one blank
abbrev pub entries : List ℕ → List ℕ
entries [] = []
entries (m ∷ ms) = blank ++ (decimal m ++ entries ms)

abbrev pub up_or_down : Bool → List ℕ
up_or_down t = cond t say_up_log say_down_log

-- a line for each number, one after another
abbrev pub lines : (ℕ → List ℕ) → List ℕ → List ℕ
lines f [] = []
lines f (i ∷ is) = f i ++ lines f is

-- ---- the lines of a bank

module _ (b : List ℕ) where
  -- N and mode
  abbrev pub group_line : List ℕ
  group_line = say_group ++ (decimal (words paper b N) ++ (blank ++ (decimal (words paper b mode) ++ newline)))

  -- of a message: number, sender, stamp and value; who holds and who has delivered it
  abbrev pub message_head : ℕ → List ℕ
  message_head m =
      say_msg
      ++ (decimal m
      ++ (say_from
      ++ (decimal (words paper b (message m sender))
      ++ (say_at
      ++ (decimal (words paper b (message m stamp)) ++ (say_value ++ decimal (words paper b (message m value))))))))

  abbrev pub message_sets : ℕ → List ℕ
  message_sets m =
      say_held
      ++ (hex (words paper b (message m held))
      ++ (say_delivered ++ (hex (words paper b (message m delivered)) ++ newline)))

  abbrev pub message_line : ℕ → List ℕ
  message_line m = message_head m ++ message_sets m

  abbrev pub controller_line : ℕ → List ℕ
  controller_line i =
      say_ctl ++ (decimal i ++ (up_or_down (has (words paper b up) i) ++ (entries (log_of paper b i) ++ newline)))

  unfoldable pub bank_lines : List ℕ
  bank_lines =
      group_line
      ++ (lines message_line (up_from 0 (words paper b count)) ++ lines controller_line (up_from 0 (words paper b N)))

-- the steps applied and the refusal
abbrev pub end_line : ℕ → ℕ → List ℕ
end_line k r = say_end ++ (decimal k ++ (blank ++ (decimal r ++ newline)))
