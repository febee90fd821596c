-- A call on the words of a bank's bytes: they are written back where it is not refused.
use Rattle.std.specs.Prelude.{◌≡◌, ℕ, List, Bool, true, false, Result, Ok, Err}
use Rattle.std.specs.Fn.{FnOnceReturnsAtMut, Once}
use denote.Ref.{MutBor}
use Rattle.numbers.specs.declared.Refusal.{Refusal}
use Rattle.numbers.specs.declared.Refusal.TheVariants.{Unfit}
use Rattle.loargwen.specs.Bytes.{words_of, bytes_of}
use Rattle.loargwen.specs.Face.{is_bank}

-- a call that is lent words and may answer a T
abbrev pub WordCall : Type 0 → Type 0 → Type 1
WordCall F T = Once F (MutBor (List ℕ) × Unit {0}) (Result T Refusal × (MutBor (List ℕ) × Unit {0}))

abbrev pub kept_or : {T : Type 0} → List ℕ → Result T Refusal → List ℕ → List ℕ
kept_or bytes (Ok x) words = bytes_of words
kept_or bytes (Err r) words = bytes

-- where the bytes are a bank's, and where they are not
abbrev pub CalledOn : {F T : Type 0} → WordCall F T → F → Bool → List ℕ → Result T Refusal → List ℕ → Type 0
CalledOn g f true bytes r bytes' =
    (words : List ℕ) × FnOnceReturnsAtMut g f (words_of bytes) r words × (bytes' ≡ kept_or bytes r words)
CalledOn g f false bytes r bytes' = (r ≡ Err Unfit) × (bytes' ≡ bytes)

abbrev pub OnWords : {F T : Type 0} → WordCall F T → F → List ℕ → Result T Refusal → List ℕ → Type 0
OnWords g f bytes r bytes' = CalledOn g f (is_bank bytes) bytes r bytes'
