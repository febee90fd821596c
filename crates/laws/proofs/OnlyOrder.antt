-- Banks that are alike differ in the order inside their logs and in nothing else: word by word, each place is either
-- outside the logs, past a log's end, of a controller that is not there, or a used entry.
use mathlib.Core.Path.{◌≡◌, refl, sym, ap, subst, ◌∙◌}
use mathlib.Core.List.{List}
use Prim.Native.Nat.{ℕ, ◌<◌}
use native.Mathlib.Omega.{arith}
use native.Mathlib.Decide.{dec_lt}
use lib.ListN.{get_or}
use lib.Seq.{ext_get_or}
use Rattle.bank.specs.Place.{Place, N, mode, count, up, view, log_length, log, message}
use Rattle.bank.specs.Layout.{Layout, words, PlaceIn}
use Rattle.bank.proofs.EveryWord.{places_are_words}
use Rattle.laws.specs.Demand.{Alike, OnlyOrder}

-- how many entries of logs a place is
abbrev entries : Place → ℕ
entries (log i k) = 1
entries N = 0
entries mode = 0
entries count = 0
entries up = 0
entries (view i) = 0
entries (log_length i) = 0
entries (message m f) = 0

pub no_entry : {A : Type 0} (p : Place) → entries p ≡ 0 → (i k : ℕ) → p ≡ log i k → A
no_entry p z i k e = absurd (omega (arith, sym z ∙ ap entries e))

module _ (L : Layout) (x y : List ℕ) (alike : Alike L x y)
    (ordered : (i k : ℕ) → PlaceIn L (log i k) → i < words L x N → k < words L x (log_length i)
    → words L x (log i k) ≡ words L y (log i k)) where
  same_entry : (i k : ℕ) → PlaceIn L (log i k) → Dec (i < words L x N) → Dec (k < words L x (log_length i))
      → words L x (log i k) ≡ words L y (log i k)
  same_entry i k p (no d) t = alike.absent i k p (omega arith)
  same_entry i k p (yes c) (no d) = alike.past i k p (omega arith)
  same_entry i k p (yes c) (yes d) = ordered i k p c d

  same_word : (p : Place) → PlaceIn L p → words L x p ≡ words L y p
  same_word (log i k) p = same_entry i k p (dec_lt i (words L x N)) (dec_lt k (words L x (log_length i)))
  same_word N p = alike.outside N p (no_entry _ refl)
  same_word mode p = alike.outside mode p (no_entry _ refl)
  same_word count p = alike.outside count p (no_entry _ refl)
  same_word up p = alike.outside up p (no_entry _ refl)
  same_word (view i) p = alike.outside (view i) p (no_entry _ refl)
  same_word (log_length i) p = alike.outside (log_length i) p (no_entry _ refl)
  same_word (message m f) p = alike.outside (message m f) p (no_entry _ refl)

pub only_order : (L : Layout) (x y : List ℕ) → Alike L x y → OnlyOrder L x y
only_order L x y alike =
    record {
      entries = λ i m l. alike.logs i m (omega arith);
      one-bank = λ whole ordered.
          ext_get_or 0 x y alike.long
          (λ a k. let w = (places_are_words L).every a (omega (arith, whole)) in
          subst (λ a. get_or x a 0 ≡ get_or y a 0) w.2 (same_word L x y alike ordered w.0 w.1));
    }
