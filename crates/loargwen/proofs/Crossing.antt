-- Bytes and words: what stands where after crossing, how long it is, and that crossing there and back changes nothing.
use Prim.Native.Nat.{ℕ, zero, suc, ◌+◌, ◌*◌, ◌/◌, ◌%◌, ◌^◌, ◌<◌}
use mathlib.Core.Path.{◌≡◌, refl, ap, ap₂}
use mathlib.Core.List.{List, [], ◌∷◌, ◌++◌}
use native.Mathlib.Numerals.{add-one}
use native.Mathlib.Omega.{arith}
use lib.ListN.{length, get_or, take}
use Rattle.std.proofs.lemmas.List.{ext_get_or}
use Rattle.std.specs.Int.{to_le_bytes, w16}
use Rattle.loargwen.specs.Bytes.{words_of, bytes_of}

-- ---- lengths

pub length-bytes : (ws : List ℕ) → length (bytes_of ws) ≡ 2 * length ws
unfolding bytes_of
length-bytes [] = refl
length-bytes (w ∷ ws) = let e = length-bytes ws in omega arith

pub length-words : (n : ℕ) (bs : List ℕ) → length bs ≡ 2 * n → length (words_of bs) ≡ n
unfolding words_of
length-words zero [] e = refl
length-words (suc n) [] e = absurd (omega arith)
length-words n (low ∷ []) e = absurd (omega arith)
length-words zero (low ∷ high ∷ bs) e = absurd (omega arith)
length-words (suc n) (low ∷ high ∷ bs) e = ap suc (length-words n bs (omega arith))

-- ---- what stands where

twice_suc : (k : ℕ) → 2 * suc k ≡ suc (suc (2 * k))
twice_suc k = omega arith

word-at : (bs : List ℕ) (k : ℕ) → 2 * k + 1 < length bs
    → get_or (words_of bs) k 0 ≡ get_or bs (2 * k) 0 + 256 * get_or bs (2 * k + 1) 0
unfolding words_of
word-at [] k h = absurd (omega arith)
word-at (low ∷ []) k h = absurd (omega arith)
word-at (low ∷ high ∷ bs) zero h = refl
word-at (low ∷ high ∷ bs) (suc k) h = rw (add-one, twice_suc, ← add-one (2 * k)) (word-at bs k (omega arith))

-- words that stand as their bytes say are the words of those bytes
pub same_words : (ws bs : List ℕ) → length bs ≡ 2 * length ws
    → ((k : ℕ) → k < length ws → get_or ws k 0 ≡ get_or bs (2 * k) 0 + 256 * get_or bs (2 * k + 1) 0)
    → ws ≡ words_of bs
same_words ws bs e each =
    let long = length-words (length ws) bs e in
    ext_get_or 0 ws (words_of bs) (omega arith)
    (λ k h. let inside : 2 * k + 1 < length bs = omega arith in rw (word-at bs k inside) (each k h))

-- one word more is two bytes more
pub bytes_more : (ws : List ℕ) (k : ℕ) → k < length ws → get_or ws k 0 < 2 ^ 16
    → bytes_of (take (k + 1) ws) ≡ bytes_of (take k ws) ++ to_le_bytes w16 (get_or ws k 0)
unfolding bytes_of
bytes_more [] k h fits = absurd (omega arith)
bytes_more (w ∷ ws) zero h fits =
    let high : w / 256 ≡ w / 256 % 256 = omega arith in ap (λ b. w % 256 ∷ b ∷ []) high
bytes_more (w ∷ ws) (suc k) h fits =
    rw add-one (ap (λ bs. w % 256 ∷ w / 256 ∷ bs) (rw add-one at (bytes_more ws k (omega arith) fits)))

-- ---- there and back

pub words_back : (ws : List ℕ) → words_of (bytes_of ws) ≡ ws
unfolding words_of bytes_of
words_back [] = refl
words_back (w ∷ ws) =
    let whole : w % 256 + 256 * (w / 256) ≡ w = omega arith in
    ap₂ (λ x xs. x ∷ xs) whole (words_back ws)

pub bytes_back : (n : ℕ) (bs : List ℕ) → length bs ≡ 2 * n → ((i : ℕ) → get_or bs i 0 < 256)
    → bytes_of (words_of bs) ≡ bs
unfolding words_of bytes_of
bytes_back n [] e small = refl
bytes_back n (low ∷ []) e small = absurd (omega arith)
bytes_back zero (low ∷ high ∷ bs) e small = absurd (omega arith)
bytes_back (suc n) (low ∷ high ∷ bs) e small =
    let below : low < 256 = small 0 in
    let first : (low + 256 * high) % 256 ≡ low = omega arith in
    let second : (low + 256 * high) / 256 ≡ high = omega arith in
    let rest = bytes_back n bs (omega arith) (λ i. small (suc (suc i))) in
    rw (first, second, rest)
