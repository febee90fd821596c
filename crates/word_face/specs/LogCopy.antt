-- A log, copied into a lent buffer.
use Rattle.std.specs.Prelude.{ℕ, ◌≡◌, List, length}
use Rattle.std.proofs.lemmas.List.Edits.{sets}
use Rattle.bank.specs.Layout.{paper}
use Rattle.lists.specs.Logs.{log_of}

-- the words of the one stand in the other from its start on, as far as it reaches; the rest of it stays
abbrev pub Copied : List ℕ → List ℕ → List ℕ → Type 0
Copied from to to' = to' ≡ sets to 0 from

-- the used part of a log in a lent buffer, and the length of that part
abbrev pub LogCopyPromise : List ℕ → ℕ → List ℕ → ℕ → List ℕ → Type 0
LogCopyPromise b who out n out' = (n ≡ length (log_of paper b who)) × Copied (log_of paper b who) out out'
