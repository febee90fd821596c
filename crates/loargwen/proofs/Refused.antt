-- A call that is refused leaves the bytes.
use Rattle.std.proofs.Common.{◌≡◌, ℕ, List, Bool, true, false, cond, Some, None, Err, refl, subst}
use Rattle.std.specs.Fn.{FnOnceReturnsAtMut}
use Rattle.numbers.specs.declared.Refusal.{Refusal}
use Rattle.loargwen.specs.Bytes.{words_of}
use Rattle.loargwen.specs.Face.{is_bank}
use Rattle.loargwen.specs.OnWords.{WordCall, CalledOn, OnWords}

pub refused : {F T : Type 0} (g : WordCall F T) (f : F) (bytes words left : List ℕ) (e : Refusal)
    → Some words ≡ cond (is_bank bytes) (Some (words_of bytes)) None
    → FnOnceReturnsAtMut g f words (Err e) left → OnWords g f bytes (Err e) bytes
refused g f bytes words left e l called = go (is_bank bytes) l
  where
    go : (t : Bool) → Some words ≡ cond t (Some (words_of bytes)) None → CalledOn g f t bytes (Err e) bytes
    go true l =
        let same : words ≡ words_of bytes = cc in
        (left, subst (λ ws. FnOnceReturnsAtMut g f ws (Err e) left) same called, refl)
    go false l = cc
