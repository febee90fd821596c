-- What makes a bank unfit. Calls other than opening test this first.
use Rattle.std.specs.Prelude.{ℕ, ◌≤◌, ◌≡◌, Bool, true, ◌&&◌, ◌||◌, List, eqb, leb, length}
use Rattle.sets.specs.Set.{every}
use Rattle.bank.specs.Place.{Words, N, mode, count, log_length}
use Rattle.bank.specs.Layout.{Layout, size, words}

-- the modes' numbers
abbrev pub all_ack : ℕ
all_ack = 1

abbrev pub majority : ℕ
majority = 2

abbrev pub is_mode : ℕ → Bool
is_mode k = eqb k all_ack || eqb k majority

-- N is 1 up to the layout's number of controllers
abbrev pub is_size : Layout → ℕ → Bool
is_size L n = leb 1 n && leb n L.controllers

-- a log is no longer than there are messages
abbrev pub log_fits : Words → ℕ → Bool
log_fits w i = leb (w (log_length i)) (w count)

abbrev pub fit_words : Layout → Words → Bool
fit_words L w =
    is_size L (w N) && (is_mode (w mode) && (leb (w count) L.messages && every (log_fits w) (w N)))

-- whether a bank is fit
abbrev pub fit : Layout → List ℕ → Bool
fit L b = eqb (length b) (size L) && fit_words L (words L b)

-- the same as facts with names
pub record Fit (L : Layout) (b : List ℕ) : Type 0 where
  pub whole : length b ≡ size L
  pub some : 1 ≤ words L b N
  pub few : words L b N ≤ L.controllers
  pub known : is_mode (words L b mode) ≡ true
  pub given : words L b count ≤ L.messages
  pub logs : every (log_fits (words L b)) (words L b N) ≡ true
