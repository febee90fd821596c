-- The sets are the words that steps change by one controller: each has such a step, and no step changes a number so.
use mathlib.Core.Path.{◌≡◌, refl, sym, ap, ◌∙◌}
use mathlib.Core.Bool.{true, false, false≢true, true≢false}
use mathlib.Core.Logic.{◌⊎◌, inl, inr, ⊎_elim}
use mathlib.Core.List.{List, [], ◌∷◌, ◌++◌, map}
use mathlib.Core.List.Memᴰ
use mathlib.Core.List.{Memᴰ}
use Prim.Native.Nat.{ℕ, ◌+◌}
use native.Mathlib.Omega.{arith}
use Rattle.sets.specs.Set.{has, with, without}
use Rattle.sets.proofs.Members.{has-with, has-without}
use Rattle.bank.specs.Place.{Field, Place, Write, ◌≔◌, sender, stamp, value, held, delivered, acked, unsent, in_flight}
use Rattle.bank.specs.Place.{N, mode, count, up, view, log_length, log, message}
use Rattle.bank.specs.Layout.{Layout, fields, in_record}
use Rattle.refusals.specs.Step.{Step, broadcast, send, receive, deliver, crash, detect, lose}
use Rattle.group.specs.Writes.{fresh, writes}
use Rattle.laws.specs.Above.{is_set, ByMember, SetsByMember}

-- ---- a step for each set

module _ (L : Layout) where
  changed_by : (p : Place) → is_set p ≡ true → ByMember L p
  changed_by N e = absurd (false≢true e)
  changed_by mode e = absurd (false≢true e)
  changed_by count e = absurd (false≢true e)
  changed_by up e = (crash 0, 0, λ w. inr (Memᴰ.head refl))
  changed_by (view i) e = (detect i 0, 0, λ w. inr (Memᴰ.head refl))
  changed_by (log_length i) e = absurd (false≢true e)
  changed_by (log i k) e = absurd (false≢true e)
  changed_by (message m sender) e = absurd (false≢true e)
  changed_by (message m stamp) e = absurd (false≢true e)
  changed_by (message m value) e = absurd (false≢true e)
  changed_by (message m held) e = (receive 0 0 m, 0, λ w. inl (Memᴰ.tail (Memᴰ.tail (Memᴰ.head refl))))
  changed_by (message m delivered) e = (deliver 0 m, 0, λ w. inl (Memᴰ.head refl))
  changed_by (message m (acked i)) e = (receive i 0 m, 0, λ w. inl (Memᴰ.tail (Memᴰ.head refl)))
  changed_by (message m (unsent i)) e = (send i 0 m, 0, λ w. inr (Memᴰ.head refl))
  changed_by (message m (in_flight i)) e = (lose 0 i m, 0, λ w. inr (Memᴰ.head refl))

-- ---- no step for a number

-- what a step writes where every word is c: a set, a number more by one, an entry of a log or a word of the next record
data Written (c : ℕ) (x : Write Place) : Type 0 where
  a_set : is_set x.at ≡ true → Written c x
  one_more : x.word ≡ c + 1 → Written c x
  entry : (i : ℕ) → x.at ≡ log i c → Written c x
  of_record : (f : Field) → x.at ≡ message c f → Written c x

abbrev AllWritten : ℕ → List (Write Place) → Type 0
AllWritten c [] = Unit {0}
AllWritten c (x ∷ xs) = Written c x × AllWritten c xs

one_of : (c : ℕ) (x : Write Place) (xs : List (Write Place)) → AllWritten c xs → Memᴰ x xs → Written c x
one_of c x [] h m = absurd (Memᴰ.not-nil m)
one_of c x (y ∷ ys) h m = ⊎_elim (λ e. rw e h.0) (one_of c x ys h.1) (Memᴰ.cases_cons m)

all_written : (L : Layout) (c : ℕ) (s : Step) → AllWritten c (writes L (λ _. c) s)
all_written L c (broadcast who s v) = go (fields L)
  where
    go : (fs : List Field)
        → AllWritten c (in_record c (map (λ f. f ≔ fresh c who s v f) fs) ++ (count ≔ (c + 1) ∷ []))
    go [] = (one_more refl, tt)
    go (f ∷ fs) = (of_record f refl, go fs)
all_written L c (send from to m) = (a_set refl, (a_set refl, tt))
all_written L c (receive i from m) = (a_set refl, (a_set refl, (a_set refl, (a_set refl, tt))))
all_written L c (deliver i m) = (a_set refl, (entry i refl, (one_more refl, tt)))
all_written L c (crash who) = (a_set refl, tt)
all_written L c (detect i j) = (a_set refl, tt)
all_written L c (lose from to m) = (a_set refl, tt)

-- a place that a step changes by one controller, where every word is c
abbrev Changed : ℕ → Place → Type 0
Changed c p = (is_set p ≡ true) ⊎ (((i : ℕ) × (p ≡ log i c)) ⊎ ((f : Field) × (p ≡ message c f)))

-- one more than c is not c with a controller, nor c without one: it lacks 0, which c has, and has k, which c lacks
module _ (L : Layout) (c k : ℕ) (had : has c 0 ≡ true) (lost : has (c + 1) 0 ≡ false) (lacked : has c k ≡ false)
    (new : has (c + 1) k ≡ true) where
  not_with : (i : ℕ) → with c i ≡ c + 1 → ⊥
  not_with i e = true≢false (sym (rw (has-with, had)) ∙ ap (λ x. has x 0) e ∙ lost)

  not_without : (i : ℕ) → without c i ≡ c + 1 → ⊥
  not_without i e = false≢true (sym (rw (has-without, lacked)) ∙ ap (λ x. has x k) e ∙ new)

  changed : (p : Place) (v : ℕ) → (v ≡ c + 1 → ⊥) → Written c (p ≔ v) → Changed c p
  changed p v n (a_set e) = inl e
  changed p v n (one_more e) = absurd (n e)
  changed p v n (entry i e) = inr (inl (i, e))
  changed p v n (of_record f e) = inr (inr (f, e))

  by_member : (p : Place) → ByMember L p → Changed c p
  by_member p (s, i, h) =
      ⊎_elim (λ m. changed p _ (not_with i) (one_of c _ _ (all_written L c s) m))
      (λ m. changed p _ (not_without i) (one_of c _ _ (all_written L c s) m))
      (h (λ _. c))

not_three : ◌≡◌ {A = ℕ} 1 3 → ⊥
not_three e = omega arith

-- what is changed so both where every word is 1 and where every word is 3 is a set
one-and_three : (p : Place) → Changed 1 p → Changed 3 p → is_set p ≡ true
one-and_three p (inl e) y = e
one-and_three p (inr x) (inl e) = e
one-and_three p (inr (inl (i, e))) (inr (inl (j, q))) = absurd (not_three (cc))
one-and_three p (inr (inl (i, e))) (inr (inr (f, q))) = absurd (not_three (cc))
one-and_three p (inr (inr (f, e))) (inr (inl (j, q))) = absurd (not_three (cc))
one-and_three p (inr (inr (f, e))) (inr (inr (g, q))) = absurd (not_three (cc))

pub sets_by_member : (L : Layout) → SetsByMember L
unfolding has
sets_by_member L p = (
  changed_by L p,
  λ h. one-and_three p (by_member L 1 1 refl refl refl refl p h) (by_member L 3 2 refl refl refl refl p h),
)
