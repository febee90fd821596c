-- At every moment the record of message m holds what the m-th broadcast said, and there are as many as broadcasts.
use mathlib.Core.Path.{◌≡◌, refl, sym, ap, ◌∙◌}
use mathlib.Core.Logic.{⊎_elim}
use mathlib.Core.Bool.{true, not}
use mathlib.Core.List.{List, [], ◌∷◌, ◌++◌, append-nil, append_assoc}
use Prim.Native.Nat.{ℕ, ◌≤◌, ◌<◌}
use native.Mathlib.Nat.{eq-or-lt_of_le}
use native.Mathlib.Omega.{arith}
use lib.ListN.{length, get_or, length-append, get_or-append}
use lib.Seq.{get_or_at}
use borrow.Author.Tests.{ne_eqb}
use Rattle.bank.specs.Place.{Words, count, message, sender, stamp, value}
use Rattle.bank.specs.Layout.{Layout, words}
use Rattle.bank.specs.Fit.{is_size, is_mode}
use Rattle.bank.specs.Opening.{opened}
use Rattle.refusals.specs.Step.{Step, broadcast, send, receive, deliver, crash, detect, lose}
use Rattle.refusals.specs.Promises.{Allowed}
use Rattle.group.specs.Promises.{after}
use Rattle.bank.proofs.Places.{key}
use Rattle.laws.proofs.Broadcast.{new_word, one_more}
use Rattle.laws.specs.Runs.{Run}
use Rattle.laws.specs.History.{saying, says, said, recorded, HistoryRight}
use Rattle.laws.proofs.Untouched.{keeps, untouched}
use Rattle.laws.proofs.Reached.{along, opened-word}

said_more : (ds : List Step) (e : Step) → said (ds ++ e ∷ []) ≡ said ds ++ says e
unfolding said
said_more [] e = append-nil (says e)
said_more (d ∷ ds) e = ap (λ xs. says d ++ xs) (said_more ds e) ∙ sym (append_assoc (says d) (said ds) (says e))

same_saying : {x y z x' y' z' : ℕ} → x ≡ x' → y ≡ y' → z ≡ z' → saying x y z ≡ saying x' y' z'
same_saying p q r = λ i. saying (p i) (q i) (r i)

-- the three words that a broadcast gives its message stay as they are
abbrev Spared : Words → Step → ℕ → Type 0
Spared w s m =
    (keeps w s (key (message m sender)) ≡ true)
    × (keeps w s (key (message m stamp)) ≡ true)
    × (keeps w s (key (message m value)) ≡ true)

module _ (L : Layout) (b : List ℕ) (s : Step) (a : Allowed L b s) where
  same_record : (m : ℕ) → m < words L b count → Spared (words L b) s m → recorded L (after L b s) m ≡ recorded L b m
  same_record m l k =
      let room : m < L.messages = omega (arith, a.sound.given) in
      let one : 0 < 1 = omega arith in
      same_saying (untouched L b s a (message m sender) (room, one) k.0)
      (untouched L b s a (message m stamp) (room, one) k.1)
      (untouched L b s a (message m value) (room, one) k.2)

  silent : says s ≡ [] → keeps (words L b) s (key count) ≡ true → ((m : ℕ) → Spared (words L b) s m)
      → (ds : List Step) → HistoryRight L ds b → HistoryRight L (ds ++ s ∷ []) (after L b s)
  silent e c k ds h =
      let many : words L (after L b s) count ≡ words L b count = untouched L b s a count tt c in
      let same : said (ds ++ s ∷ []) ≡ said ds = said_more ds s ∙ ap (λ xs. said ds ++ xs) e ∙ append-nil (said ds) in
      record {
        counted = many ∙ h.counted ∙ ap length (sym same);
        kept = λ m l. rw same (same_record m (omega arith) (k m) ∙ h.kept m (omega arith));
      }

-- a broadcast is the last of them, and its message's record holds it
module _ (L : Layout) (b : List ℕ) (who s v : ℕ) (a : Allowed L b (broadcast who s v)) where
  spoken : (ds : List Step) → HistoryRight L ds b
      → HistoryRight L (ds ++ broadcast who s v ∷ []) (after L b (broadcast who s v))
  spoken ds h =
      let many = one_more L b who s v a in
      let all = said_more ds (broadcast who s v) in
      record {
        counted = many ∙ omega (arith, h.counted, ap length all, length-append (said ds) (saying who s v ∷ []));
        kept = λ m l. (let to : m ≤ words L b count = omega arith in
            rw all (⊎_elim (last m) (before m) (eq-or-lt_of_le to)));
      }
    where
      Held : ℕ → Type 0
      Held m =
          recorded L (after L b (broadcast who s v)) m ≡ get_or (said ds ++ saying who s v ∷ []) m (saying 0 0 0)

      last : (m : ℕ) → m ≡ words L b count → Held m
      last m e =
          let one : 0 < 1 = omega arith in
          ap (recorded L (after L b (broadcast who s v))) e
          ∙ same_saying (new_word L b who s v a sender one) (new_word L b who s v a stamp one)
          (new_word L b who s v a value one)
          ∙ sym (get_or_at (said ds) (saying who s v) [] (saying 0 0 0) m (sym h.counted ∙ sym e))

      before : (m : ℕ) → m < words L b count → Held m
      before m l =
          let old = ap not (ne_eqb m (words L b count) (λ e. omega arith)) in
          same_record L b (broadcast who s v) a m l (old, old, old)
          ∙ h.kept m l
          ∙ sym (get_or-append (said ds) (saying who s v ∷ []) (saying 0 0 0) m (omega (arith, h.counted)))

history_step : (L : Layout) (ds : List Step) (b : List ℕ) (e : Step) → Allowed L b e → HistoryRight L ds b
    → HistoryRight L (ds ++ e ∷ []) (after L b e)
history_step L ds b (broadcast who s v) a = spoken L b who s v a ds
history_step L ds b (send from to m) a = silent L b (send from to m) a refl refl (λ m. (refl, refl, refl)) ds
history_step L ds b (receive i from m) a = silent L b (receive i from m) a refl refl (λ m. (refl, refl, refl)) ds
history_step L ds b (deliver i m) a = silent L b (deliver i m) a refl refl (λ m. (refl, refl, refl)) ds
history_step L ds b (crash who) a = silent L b (crash who) a refl refl (λ m. (refl, refl, refl)) ds
history_step L ds b (detect i j) a = silent L b (detect i j) a refl refl (λ m. (refl, refl, refl)) ds
history_step L ds b (lose from to m) a = silent L b (lose from to m) a refl refl (λ m. (refl, refl, refl)) ds

module _ (L : Layout) (n k : ℕ) (fits : is_size L n ≡ true) (known : is_mode k ≡ true) where
  pub records_hold_broadcasts : {es : List Step} {b : List ℕ} → Run (Allowed L) (after L) (opened L n k) es b
      → HistoryRight L es b
  unfolding said
  records_hold_broadcasts r =
      let none : words L (opened L n k) count ≡ 0 = opened-word L n k fits count tt refl in
      along (HistoryRight L) (history_step L) (record { counted = none; kept = λ m l. absurd (omega arith) }) r
