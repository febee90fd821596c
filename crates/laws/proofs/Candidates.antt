-- The settler's list: what stands in it settles and comes in turn, and every settling step of the group stands in it.
use mathlib.Core.Path.{◌≡◌, refl, sym, ap, subst}
use mathlib.Core.Bool.{Bool, true, false}
use mathlib.Core.Logic.{⊎_elim}
use mathlib.Core.List.Memᴰ.{head as here}
use mathlib.Core.List.Memᴰ.{tail as there}
use mathlib.Core.List.{List, [], ◌∷◌, ◌++◌, map, Memᴰ as In}
use mathlib.Core.List.Memᴰ.{append_left as in_left}
use mathlib.Core.List.Memᴰ.{cases_cons as in-cons}
use mathlib.Core.List.Memᴰ.{not-nil as in-nothing}
use mathlib.Core.List.Memᴰ.{append_right as in_right}
use Prim.Native.Nat.{ℕ, zero, suc, ◌+◌, ◌≤◌, ◌<◌}
use native.Mathlib.Omega.{arith}
use lib.Dec.{eqb}
use borrow.Author.Tests.{eqb-true, eqb-false}
use Rattle.bank.specs.Layout.{up_from}
use Rattle.refusals.specs.Step.{Step, send, receive, deliver, detect}
use Rattle.settler.specs.Candidates.{below, each, pairs, of_message, candidates}
use Rattle.laws.specs.Runs.{settles}
use Rattle.laws.specs.Settler.{turn, InTurn}
use Rattle.laws.proofs.Sets.{Sets, Ok}
use Rattle.laws.proofs.Onward.{SettlingKind, sends, receives, delivers, detects}

-- ---- a fact of every step of a list

module _ (P : Step → Type 0) where
  abbrev All : List Step → Type 0
  All [] = Unit {0}
  All (e ∷ es) = P e × All es

  all_at : (es : List Step) → All es → (e : Step) → In e es → P e
  all_at [] h e m = absurd (in-nothing m)
  all_at (x ∷ es) h e m = ⊎_elim (λ q. subst P (sym q) h.0) (all_at es h.1 e) (in-cons m)

  all_append : (xs ys : List Step) → All xs → All ys → All (xs ++ ys)
  all_append [] ys h k = k
  all_append (x ∷ xs) ys h k = (h.0, all_append xs ys h.1 k)

  all_map : (f : ℕ → Step) → ((i : ℕ) → P (f i)) → (is : List ℕ) → All (map f is)
  all_map f h [] = tt
  all_map f h (i ∷ is) = (h i, all_map f h is)

  all_each : (f : ℕ → List Step) → ((i : ℕ) → All (f i)) → (is : List ℕ) → All (each f is)
  all_each f h [] = tt
  all_each f h (i ∷ is) = all_append (f i) (each f is) (h i) (all_each f h is)

  all_pairs : (n : ℕ) (s : ℕ → ℕ → Step) → ((i j : ℕ) → P (s i j)) → All (pairs n s)
  all_pairs n s h = all_each (λ i. map (s i) (below n)) (λ i. all_map (s i) (h i) (below n)) (below n)

  all_of_message : (n m : ℕ) → ((i j : ℕ) → P (send i j m)) → ((i j : ℕ) → P (receive i j m))
      → ((i : ℕ) → P (deliver i m)) → All (of_message n m)
  all_of_message n m s r d =
      all_append (pairs n (λ i j. send i j m)) _ (all_pairs n (λ i j. send i j m) s)
      (all_append (pairs n (λ i j. receive i j m)) _ (all_pairs n (λ i j. receive i j m) r)
      (all_map (λ i. deliver i m) d (below n)))

-- ---- the list's steps settle

abbrev Settles : Step → Type 0
Settles e = settles e ≡ true

pub candidates-settle : (n c : ℕ) (e : Step) → In e (candidates n c) → settles e ≡ true
unfolding candidates
candidates-settle n c =
    all_at Settles (candidates n c)
    (all_append Settles (pairs n detect) _ (all_pairs Settles n detect (λ i j. refl))
    (all_each Settles (of_message n)
    (λ m. all_of_message Settles n m (λ i j. refl) (λ i j. refl) (λ i. refl))
    (below c)))

-- ---- the list is in turn

lower : {i j : ℕ} (es : List Step) → i ≤ j → InTurn j es → InTurn i es
lower [] l h = tt
lower (e ∷ es) l h = (omega (arith, h.0), h.1)

-- all of one turn
abbrev Level : ℕ → List Step → Type 0
Level j = All (λ e. turn e ≡ j)

level_first : (i j : ℕ) (xs ys : List Step) → i ≤ j → Level j xs → InTurn j ys → InTurn i (xs ++ ys)
level_first i j [] ys l h t = lower ys l t
level_first i j (x ∷ xs) ys l h t =
    (omega (arith, h.0), level_first (turn x) j xs ys (omega (arith, h.0)) h.1 t)

messages_in_turn : (n k i j : ℕ) → j ≤ i + 1 → InTurn j (each (of_message n) (up_from i k))
messages_in_turn n zero i j l = tt
messages_in_turn n (suc k) i j l =
    level_first j (i + 1) (of_message n i) _ l
    (all_of_message (λ e. turn e ≡ i + 1) n i (λ a b. refl) (λ a b. refl) (λ a. refl))
    (messages_in_turn n k (suc i) (i + 1) (omega arith))

pub candidates_in_turn : (n c : ℕ) → InTurn 0 (candidates n c)
unfolding candidates
candidates_in_turn n c =
    level_first 0 0 (pairs n detect) _ (omega arith) (all_pairs (λ e. turn e ≡ 0) n detect (λ i j. refl))
    (messages_in_turn n c 0 0 (omega arith))

-- what stands in a list that is in turn from j on has a turn of j or more
pub from_turn : (j : ℕ) (es : List Step) → InTurn j es → (e : Step) → In e es → j ≤ turn e
from_turn j [] h e m = absurd (in-nothing m)
from_turn j (x ∷ es) h e m =
    ⊎_elim (λ q. omega (arith, h.0, ap turn q)) (λ n. omega (arith, h.0, from_turn (turn x) es h.1 e n))
    (in-cons m)

-- ---- every settling step stands in the list

in_up_from : (a k i : ℕ) → i ≤ a → a < i + k → In a (up_from i k)
in_up_from a zero i l h = absurd (omega arith)
in_up_from a (suc k) i l h = go (eqb i a) refl (in_up_from a k (suc i))
  where
    go : (t : Bool) → eqb i a ≡ t → (suc i ≤ a → a < suc i + k → In a (up_from (suc i) k))
        → In a (i ∷ up_from (suc i) k)
    go true e r = here (sym (eqb-true i a e))
    go false e r = there (r (omega (arith, eqb-false i a e)) (omega arith))

in_below : (n i : ℕ) → i < n → In i (below n)
in_below n i l = in_up_from i n 0 (omega arith) (omega arith)

in_map : (f : ℕ → Step) {i : ℕ} {is : List ℕ} → In i is → In (f i) (map f is)
in_map f (here e) = here (ap f e)
in_map f (there m) = there (in_map f m)

in_each : (f : ℕ → List Step) {e : Step} {i : ℕ} {is : List ℕ} → In i is → In e (f i) → In e (each f is)
in_each f {e} (here {xs = is} q) m = in_left (each f is) (subst (λ i. In e (f i)) q m)
in_each f (there {x = x} n) m = in_right (f x) (in_each f n m)

in_pairs : (n : ℕ) (s : ℕ → ℕ → Step) (i j : ℕ) → i < n → j < n → In (s i j) (pairs n s)
in_pairs n s i j k l = in_each (λ i. map (s i) (below n)) (in_below n i k) (in_map (s i) (in_below n j l))

in-message : (n c m : ℕ) → m < c → (e : Step) → In e (of_message n m) → In e (candidates n c)
unfolding candidates
in-message n c m l e h = in_right (pairs n detect) (in_each (of_message n) (in_below c m l) h)

pub candidate : (room : ℕ) (s : Sets) {e : Step} → SettlingKind e → Ok room s e
    → In e (candidates s.N s.count)
unfolding candidates
candidate room s (sends {from} {to} {m}) ((k, l, g), u, e) =
    in-message s.N s.count m g (send from to m)
    (in_left _ (in_pairs s.N (λ i j. send i j m) from to k l))
candidate room s (receives {i} {from} {m}) ((k, l, g), u, e) =
    in-message s.N s.count m g (receive i from m)
    (in_right (pairs s.N (λ i j. send i j m))
    (in_left _ (in_pairs s.N (λ i j. receive i j m) i from k l)))
candidate room s (delivers {i} {m}) ((k, g), u, e) =
    in-message s.N s.count m g (deliver i m)
    (in_right (pairs s.N (λ i j. send i j m))
    (in_right (pairs s.N (λ i j. receive i j m)) (in_map (λ i. deliver i m) (in_below s.N i k))))
candidate room s (detects {i} {j}) ((k, l), u, e) = in_left _ (in_pairs s.N detect i j k l)
