-- The words of a record just broadcast: cleared, and five words written, or written field by field, all the same.
use mathlib.Core.Path.{◌≡◌, refl, sym, ap, ap₂, ◌∙◌}
use mathlib.Core.Bool.{cond}
use mathlib.Core.List.{List, ◌∷◌, ◌++◌, map, map-map, map-append}
use Prim.Native.Nat.{ℕ, suc, ◌+◌, ◌<◌}
use native.Mathlib.Nat.{zero-add}
use native.Mathlib.Omega.{arith}
use lib.Dec.{eqb}
use lib.ListN.{length, set, replicate, length-replicate, replicate-append-replicate}
use lib.Seq.{set-append_left}
use Rattle.sets.specs.Set.{with, all_below}
use Rattle.bank.specs.Place.{Field, acked, unsent, in_flight}
use Rattle.bank.specs.Layout.{Layout, record_size, offset, up_from, fields}
use Rattle.bank.proofs.Lending.{set-append-add}
use Rattle.bank.proofs.Fields.{one_word, zeros}
use Rattle.group.specs.Writes.{fresh}

pub five_words : (L : Layout) (n who s v : ℕ) → who < L.controllers
    → set (set (set (set (set (replicate (record_size L) 0) 0 who) 1 s) 2 v) 3 (with 0 who)) (offset L (unsent who))
    (all_below n)
    ≡ map (fresh n who s v) (fields L)
unfolding fields
five_words L n who s v h =
    let k : ℕ = L.controllers in
    let g : Field → ℕ = fresh n who s v in
    let rest : List ℕ = replicate k 0 ++ replicate k 0 in
    let front : List ℕ = who ∷ s ∷ v ∷ with 0 who ∷ 0 ∷ replicate k 0 in
    let size : record_size L ≡ suc (suc (suc (suc (suc (k + (k + k)))))) = omega arith in
    let here : offset L (unsent who) ≡ length front + who = omega (arith, length-replicate {A = ℕ} k 0) in
    let whole : replicate (k + (k + k)) 0 ≡ replicate k 0 ++ rest =
    rw (sym (replicate-append-replicate {A = ℕ} k (k + k) 0), sym (replicate-append-replicate {A = ℕ} k k 0)) refl in
    ap₂ (λ r j. set (set (set (set (set (replicate r 0) 0 who) 1 s) 2 v) 3 (with 0 who)) j (all_below n)) size here
    ∙ ap (λ l. set (who ∷ s ∷ v ∷ with 0 who ∷ 0 ∷ l) (length front + who) (all_below n)) whole
    ∙ set-append-add front rest who (all_below n)
    ∙ ap (λ l. front ++ l)
    (set-append_left (replicate k 0) (replicate k 0) who (all_below n) (omega (arith, length-replicate {A = ℕ} k 0)))
    ∙ ap₂ (λ l r. who ∷ s ∷ v ∷ with 0 who ∷ 0 ∷ (l ++ r)) (zeros g acked k 0 (λ j. refl))
    (ap₂ (λ l r. l ++ r)
    (one_word (all_below n) k 0 who h
    ∙ ap (λ x. map (λ j. cond (eqb j x) (all_below n) 0) (up_from 0 k)) (zero-add who)
    ∙ sym (map-map g unsent (up_from 0 k)))
    (zeros g in_flight k 0 (λ j. refl))
    ∙ sym (map-append g (map unsent (up_from 0 k)) (map in_flight (up_from 0 k))))
    ∙ ap (λ l. who ∷ s ∷ v ∷ with 0 who ∷ 0 ∷ l)
    (sym (map-append g (map acked (up_from 0 k)) (map unsent (up_from 0 k) ++ map in_flight (up_from 0 k))))
