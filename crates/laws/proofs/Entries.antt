-- A log's used part, entry by entry: what it lists, and how often a number stands in it.
use mathlib.Core.Path.{◌≡◌, refl, sym, ap, ◌∙◌}
use mathlib.Core.Bool.{cond}
use mathlib.Core.List.{List, [], ◌∷◌, map}
use Prim.Native.Nat.{ℕ, zero, suc, ◌+◌, ◌*◌, ◌≤◌, ◌<◌}
use native.Mathlib.Nat.{add-zero, zero-add, add_assoc}
use native.Mathlib.Omega.{arith}
use lib.Dec.{eqb}
use lib.ListN.{length, get_or, take, drop}
use lib.Seq.{drop-cons}
use borrow.Author.Tests.{lt-ltb, le-ltb, leb-true}
use Rattle.sets.specs.Set.{how_many}
use Rattle.sets.proofs.Counts.{every-at}
use Rattle.bank.specs.Place.{N, count, log_length, log}
use Rattle.bank.specs.Layout.{Layout, start, bank_widths, address, words, up_from}
use Rattle.bank.specs.Fit.{Fit, log_fits}
use Rattle.lists.specs.Logs.{log_of}
use Rattle.bank.proofs.Places.{inside}
use Rattle.bank.proofs.Fitness.{facts_fit}
use Rattle.bank.proofs.Rules.{pass, stop}
use Rattle.lists.proofs.Asking.{log_there, no_length, whole_length}
use Rattle.laws.specs.Logs.{occurs}

-- n words from a on, of a list that has them
part_words : (b : List ℕ) (a n j : ℕ) → ((k : ℕ) → k < j + n → a + k < length b)
    → take n (drop (a + j) b) ≡ map (λ k. get_or b (a + k) 0) (up_from j n)
part_words b a zero j h = refl
part_words b a (suc n) j h =
    ap (take (suc n)) (drop-cons b (a + j) 0 (h j (omega arith)))
    ∙ ap (λ r. get_or b (a + j) 0 ∷ r)
    (ap (λ k. take n (drop k b)) (let e : suc (a + j) ≡ a + suc j = omega arith in e)
    ∙ part_words b a n (suc j) (λ k l. h k (omega arith)))

-- how often x stands among the entries, counted from the front or from the back
count_from : (x : ℕ) (at : ℕ → ℕ) (n j : ℕ)
    → how_many (λ k. eqb (at k) x) j + occurs x (map at (up_from j n)) ≡ how_many (λ k. eqb (at k) x) (j + n)
unfolding occurs how_many
count_from x at zero j = omega (arith, ap (how_many (λ k. eqb (at k) x)) (add-zero j))
count_from x at (suc n) j =
    sym (add_assoc (how_many (λ k. eqb (at k) x) j) (cond (eqb (at j) x) 1 0) (occurs x (map at (up_from (suc j) n))))
    ∙ count_from x at n (suc j)
    ∙ ap (how_many (λ k. eqb (at k) x)) (let e : suc j + n ≡ j + suc n = omega arith in e)

module _ (L : Layout) (b : List ℕ) (f : Fit L b) (i : ℕ) (l : i < words L b N) where
  pub log_short : words L b (log_length i) ≤ words L b count
  log_short = leb-true _ _ (every-at (log_fits (words L b)) (words L b N) f.logs i l)

  pub log-entries : log_of L b i ≡ map (λ k. words L b (log i k)) (up_from 0 (words L b (log_length i)))
  log-entries =
      ap (λ n. take n (drop (address L (log i 0)) b))
      (whole_length L b i (log_there L b i (facts_fit L b f) (lt-ltb _ _ l)))
      ∙ part_words b (start 6 (bank_widths L) + i * L.messages) (words L b (log_length i)) 0 within
    where
      within : (k : ℕ) → k < 0 + words L b (log_length i) → address L (log i k) < length b
      within k h =
          let room : k < L.messages = omega (arith, log_short, f.given) in
          rw f.whole (inside L (log i k) (omega (arith, f.few), room))

  pub log-occurs : (x : ℕ)
      → occurs x (log_of L b i) ≡ how_many (λ k. eqb (words L b (log i k)) x) (words L b (log_length i))
  unfolding how_many
  log-occurs x =
      ap (occurs x) log-entries
      ∙ sym (zero-add _)
      ∙ count_from x (λ k. words L b (log i k)) (words L b (log_length i)) 0
      ∙ ap (how_many (λ k. eqb (words L b (log i k)) x)) (zero-add (words L b (log_length i)))

-- a controller that is not there has no log
pub no_log : (L : Layout) (b : List ℕ) → Fit L b → (i : ℕ) → words L b N ≤ i → log_of L b i ≡ []
no_log L b f i l =
    ap (λ n. take n (drop (address L (log i 0)) b))
    (no_length L b i 3 (pass 1 (facts_fit L b f) (stop 0 (le-ltb i (words L b N) l) refl)) (λ e. omega arith))
