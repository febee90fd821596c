-- At no moment is anything refused by 1: the bank is fit, and a log has room for what its controller may deliver.
use mathlib.Core.Path.{◌≡◌, refl, sym, ap, ◌∙◌}
use mathlib.Core.Bool.{Bool, true, false, cond, ◌||◌, true≢false}
use mathlib.Core.List.{List, [], ◌∷◌, ◌++◌, append-nil}
use mathlib.Core.Option.{Option, none, some}
use Prim.Native.Nat.{ℕ}
use native.Mathlib.Omega.{arith}
use lib.Dec.{eqb}
use lib.ListN.{take, drop}
use borrow.Author.Tests.{eqb-false, ltb-true, lt-ltb, not-true}
use Rattle.bank.specs.Place.{Words}
use Rattle.bank.specs.Layout.{Layout, words}
use Rattle.bank.specs.Fit.{is_size, is_mode}
use Rattle.bank.specs.Opening.{opened}
use Rattle.refusals.specs.Step.{Step, broadcast, send, receive, deliver, crash, detect, lose, asked, Asked}
use Rattle.bank.specs.Rules.{Rule, first_broken, Holds}
use Rattle.refusals.specs.State.{has_delivered}
use Rattle.refusals.specs.Refusals.{rules, refusal}
use Rattle.refusals.specs.Promises.{Allowed, asked_refusal, refusal_of}
use Rattle.group.specs.Promises.{after}
use Rattle.bank.proofs.Fitness.{facts_fit}
use Rattle.bank.proofs.Rules.{pass}
use Rattle.refusals.proofs.Granted.{due_granted}
use Rattle.laws.specs.Runs.{Run}
use Rattle.laws.proofs.Reached.{fit-run}
use Rattle.laws.proofs.Logs.{delivered_room}

-- whether a rule has the number 1
abbrev names_one : List Rule → Bool
names_one [] = false
names_one (r ∷ rs) = eqb r.number 1 || names_one rs

-- rules of other numbers do not answer 1; where they all hold, the rules after them may
not_one : (rs ss : List Rule) → names_one rs ≡ false → (Holds rs → first_broken ss ≡ 1 → ⊥)
    → first_broken (rs ++ ss) ≡ 1 → ⊥
not_one [] ss o k e = k tt e
not_one (r ∷ rs) ss o k e = go r.holds refl (eqb r.number 1) refl o e (not_one rs ss)
  where
    go : (t : Bool) → r.holds ≡ t → (u : Bool) → eqb r.number 1 ≡ u → (u || names_one rs) ≡ false
        → cond t (first_broken (rs ++ ss)) r.number ≡ 1
        → (names_one rs ≡ false → (Holds rs → first_broken ss ≡ 1 → ⊥) → first_broken (rs ++ ss) ≡ 1 → ⊥) → ⊥
    go t q true f o e rest = true≢false o
    go true q false f o e rest = rest o (λ h. k (q, h)) e
    go false q false f o e rest = eqb-false r.number 1 f e

module _ (L : Layout) (n k : ℕ) (fits : is_size L n ≡ true) (known : is_mode k ≡ true) where
  pub never_one : {es : List Step} {b : List ℕ} → Run (Allowed L) (after L) (opened L n k) es b
      → (x : Asked) → refusal_of L b x ≡ 1 → ⊥
  unfolding refusal_of
  never_one {b = b} r x e =
      go (asked x) (sym (pass 1 (facts_fit L b (fit-run L n k fits known r)) refl) ∙ e)
    where
      w : Words
      w = words L b

      plain : (s : Step) → names_one (rules L w s) ≡ false → refusal L w s ≡ 1 → ⊥
      plain s o e = not_one (rules L w s) [] o (λ h q. omega arith) (ap first_broken (append-nil (rules L w s)) ∙ e)

      -- the last of a delivery's seven rules is the one of number 1
      has_room : (i m : ℕ) → Holds (take 6 (rules L w (deliver i m)))
          → first_broken (drop 6 (rules L w (deliver i m))) ≡ 1 → ⊥
      has_room i m h q =
          let d = due_granted L w h in
          let not_yet = not-true (has_delivered w i m) d.new in
          let room =
          delivered_room L n k fits known r i m (ltb-true _ _ d.there) (ltb-true _ _ d.given) not_yet in
          let z : ◌≡◌ {A = ℕ} 0 1 = sym (pass 1 (lt-ltb _ _ room) refl) ∙ q in omega arith

      go : (o : Option Step) → asked_refusal L b o ≡ 1 → ⊥
      go none e = omega arith
      go (some (broadcast who s v)) e = plain (broadcast who s v) refl e
      go (some (send from to m)) e = plain (send from to m) refl e
      go (some (receive i from m)) e = plain (receive i from m) refl e
      go (some (deliver i m)) e =
          not_one (take 6 (rules L w (deliver i m))) (drop 6 (rules L w (deliver i m))) refl (has_room i m) e
      go (some (crash who)) e = plain (crash who) refl e
      go (some (detect i j)) e = plain (detect i j) refl e
      go (some (lose from to m)) e = plain (lose from to m) refl e
