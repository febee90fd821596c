-- Words cross as two bytes, the low one first.
use Rattle.std.specs.Prelude.{ℕ, ◌+◌, ◌*◌, ◌/◌, ◌%◌, List, [], ◌∷◌}

-- a byte left over makes no word
unfoldable pub words_of : List ℕ → List ℕ
words_of (low ∷ high ∷ rest) = (low + 256 * high) ∷ words_of rest
words_of (low ∷ []) = []
words_of [] = []

unfoldable pub bytes_of : List ℕ → List ℕ
bytes_of (w ∷ ws) = w % 256 ∷ w / 256 ∷ bytes_of ws
bytes_of [] = []
