-- An array of what a closure answers at each index, where a call leaves what the closure holds.
use Rattle.std.proofs.Common.{◌≡◌, ℕ, zero, suc, ◌+◌, ◌<◌, ◌≤◌, List, get_or, arith, subst, sym, inl, inr}
use Rattle.std.proofs.lemmas.Bool.{cases_eq}
use Rattle.std.specs.Array.{IsFromFnResult, IsFromFnResultFrom}
use Rattle.std.specs.Fn.{Called, Mut}

module _ {F B : Type 0} {g : Mut F (ℕ × Unit {0}) B} {f : F} (P : ℕ → B → Type 0)
    (answers : (k : ℕ) (y : B) (q : F) → Called g f (k, tt) y q → (q ≡ f) × P k y) where
  from : (ys : List B) (i n : ℕ) → IsFromFnResultFrom g f ys i n → (k : ℕ) → i ≤ k → k < i + n → (e : B)
      → P k (get_or ys k e)
  from ys i zero made k low high e = absurd (omega arith)
  from ys i (suc n) made k low high e =
      let first = answers i made.1 made.0 made.3 in
      elim (cases_eq k i) [
        | inl same ↦ subst (λ j. P j (get_or ys j e)) (sym same) (subst (P i) (sym (made.2.1 e)) first.1)
        | inr other ↦
            let rest = subst (λ q. IsFromFnResultFrom g q ys (i + 1) n) first.0 made.4 in
            from ys (i + 1) n rest k (omega arith) (omega arith) e
      ]

  pub made_at : {ys : List B} {n : ℕ} → IsFromFnResult g f ys n → (k : ℕ) → k < n → (e : B) → P k (get_or ys k e)
  made_at {ys} {n} made k h e = from ys 0 n made.each k (omega arith) (omega arith) e
