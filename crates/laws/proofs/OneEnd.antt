-- Where any two steps may be taken in either order, all finished runs from a state are equally long and end alike.
use mathlib.Core.Path.{◌≡◌, refl, ap, subst}
use mathlib.Core.List.{List, ◌∷◌}
use mathlib.Core.HLevel.{Discrete}
use Prim.Native.Nat.{suc, ◌+◌}
use native.Mathlib.Omega.{arith}
use lib.ListN.{length}
use Rattle.laws.specs.Runs.{Run, done, next, Ended}

module _ {S E : Type 0} (allows : S → E → Type 0) (act : S → E → S) where
  -- each is allowed after the other, and both orders end alike
  abbrev pub Square : S → E → E → Type 0
  Square s a b = allows (act s a) b × allows (act s b) a × (act (act s a) b ≡ act (act s b) a)

  -- what every step keeps, and what gives squares
  pub record Diamond (Inv : S → Type 0) : Type 0 where
    pub keep : (s : S) (e : E) → Inv s → allows s e → Inv (act s e)
    pub square : (s : S) (a b : E) → Inv s → allows s a → allows s b → (a ≡ b → ⊥) → Square s a b

module _ {S E : Type 0} (allows : S → E → Type 0) (act : S → E → S) (Inv : S → Type 0) (same : Discrete E)
    (D : Diamond allows act Inv) where
  -- an allowed step can be taken first: the rest of a finished run is one shorter and ends where it ended
  abbrev First : S → S → List E → E → Type 0
  First s t es e = (fs : List E) × Run allows act (act s e) fs t × (length es ≡ suc (length fs))

  first : {s t : S} {es : List E} (e : E) → Inv s → Run allows act s es t → Ended allows t → allows s e → First s t es e
  first e h done z o = absurd (z e o)
  first {s} {t} e h (next {e = a} {es = rest} oa r) z o =
      pick (same a e) (λ n. first e (D.keep s a h oa) r z (D.square s a e h oa o n).0)
    where
      pick : Dec (a ≡ e) → ((a ≡ e → ⊥) → First (act s a) t rest e) → First s t (a ∷ rest) e
      pick (yes p) k = (rest, subst (λ x. Run allows act (act s x) rest t) p r, refl)
      pick (no n) k =
          let q = D.square s a e h oa o n in
          (a ∷ (k n).0, next q.1 (subst (λ x. Run allows act x (k n).0 t) q.2 (k n).1), ap suc (k n).2)

  -- any run goes on to the end of a finished one
  abbrev Onward : S → S → List E → List E → Type 0
  Onward u t es fs = (gs : List E) × Run allows act u gs t × (length es ≡ length fs + length gs)

  onward : {s t u : S} {es fs : List E} → Inv s → Run allows act s es t → Ended allows t → Run allows act s fs u
      → Onward u t es fs
  onward {es = es} h r z done = (es, r, omega arith)
  onward {s} h r z (next {e = e} o q) =
      let x = first e h r z o in
      let y = onward (D.keep s e h o) x.1 z q in
      (y.0, y.1, omega (arith, x.2, y.2))

  no_more : {t u : S} {gs : List E} → Run allows act u gs t → Ended allows u → (u ≡ t) × (length gs ≡ 0)
  no_more done z = (refl, refl)
  no_more (next {e = e} o r) z = absurd (z e o)

  pub same_end : {s t u : S} {es fs : List E} → Inv s
      → Run allows act s es t → Ended allows t → Run allows act s fs u → Ended allows u
      → (u ≡ t) × (length es ≡ length fs)
  same_end h r z q y =
      let x = onward h r z q in
      let e = no_more x.1 y in
      (e.0, omega (arith, e.1, x.2))
