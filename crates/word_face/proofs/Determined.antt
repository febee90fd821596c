-- The promise of a log's copy leaves no room: two lengths and buffers that it allows for the same input are equal. For
-- the other three calls the laws of `lists` and `refusals` say so, since their promises are those crates' own.
use Prim.Native.Nat.{ℕ}
use mathlib.Core.Path.{◌≡◌, sym, ◌∙◌}
use mathlib.Core.List.{List}
use Rattle.word_face.specs.LogCopy.{LogCopyPromise}

pub log_copy_determined : (b : List ℕ) (who : ℕ) (out : List ℕ) {n k : ℕ} {c d : List ℕ} → LogCopyPromise b who out n c
    → LogCopyPromise b who out k d → (n ≡ k) × (c ≡ d)
log_copy_determined b who out e f = (e.0 ∙ sym f.0, e.1 ∙ sym f.1)
