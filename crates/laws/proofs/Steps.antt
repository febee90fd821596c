-- Each allowed step of a bank is that step of its sets.
use mathlib.Core.Path.{◌≡◌, refl, ap, subst, fun_ext, ◌∙◌}
use mathlib.Core.Bool.{Bool, true, false, cond, ◌&&◌, and-true}
use mathlib.Core.List.{List, [], ◌∷◌}
use Prim.Native.Nat.{ℕ, ◌+◌, ◌<◌}
use lib.Dec.{eqb}
use borrow.Author.Tests.{eqb-true}
use Rattle.sets.specs.Set.{has, without}
use Rattle.bank.specs.Place.{Field, Words, record_of, Write, ◌≔◌, N, mode, count, up, view, message}
use Rattle.bank.specs.Layout.{Layout, words, in_record, FieldIn}
use Rattle.refusals.specs.Step.{Step, broadcast, send, receive, deliver, crash, detect, lose}
use Rattle.group.specs.Writes.{fresh_record, sent, received, lost, marked, writes}
use Rattle.refusals.specs.Promises.{Allowed}
use Rattle.group.specs.Promises.{after}
use Rattle.bank.proofs.Reading.{later, later_append}
use Rattle.refusals.proofs.Granted.{broadcast_granted}
use Rattle.refusals.proofs.Bounds.{controller_below}
use Rattle.laws.proofs.Sets.{RecordSets, Sets, sets_with, in_message, act}
use Rattle.laws.proofs.Sets.{new_record, after_send, after_receive, after_deliver, after_lose}
use Rattle.laws.proofs.Visible.{visible, seen-outside, seen_after}
use Rattle.laws.proofs.Bridge.{record_sets, sets, later_in, out_one, out_at}
use Rattle.laws.proofs.Bridge.{sets-sent, sets-received, sets-delivered, sets-lost, sets-fresh}
use Rattle.laws.proofs.Written.{not_reached, other_message, this_message, fresh-whole}

-- writes in message m's record change its sets by F, and no other message's
module _ (w : Words) (m : ℕ) (xs : List (Write Field)) (F : RecordSets → RecordSets)
    (h : record_sets (later_in xs (λ f. w (message m f))) ≡ F (record_sets (λ f. w (message m f)))) where
  pub message_sets : (k : ℕ)
      → record_sets (λ f. later (in_record m xs) (message k f) (w (message k f)))
      ≡ cond (eqb m k) (F (record_sets (λ f. w (message k f)))) (record_sets (λ f. w (message k f)))
  message_sets k = go (eqb m k) refl
    where
      go : (t : Bool) → eqb m k ≡ t
          → record_sets (λ f. later (in_record m xs) (message k f) (w (message k f)))
          ≡ cond t (F (record_sets (λ f. w (message k f)))) (record_sets (λ f. w (message k f)))
      go true e =
          subst
          (λ k.
          record_sets (λ f. later (in_record m xs) (message k f) (w (message k f))) ≡ F (record_sets (λ f. w
          (message k f))))
          (eqb-true m k e)
          (ap record_sets (fun_ext (λ f. this_message m xs f (λ g. w (message m g)))) ∙ h)
      go false e = ap record_sets (fun_ext (λ f. other_message m k xs f (w (message k f)) e))

  pub record-sets : sets (λ p. later (in_record m xs) p (w p)) ≡ in_message (sets w) m F
  unfolding sets
  record-sets =
      λ d. record {
        N = not_reached m xs N (w N) refl d;
        mode = not_reached m xs mode (w mode) refl d;
        count = not_reached m xs count (w count) refl d;
        up = λ a. has (not_reached m xs up (w up) refl d) a;
        view = λ a b. has (not_reached m xs (view a) (w (view a)) refl d) b;
        message = λ k. message_sets k d;
      }

-- the sender of a broadcast has a place in the layout
abbrev Named : Layout → Step → Type 0
Named L (broadcast who s v) = who < L.controllers
Named L (send from to m) = Unit {0}
Named L (receive i from m) = Unit {0}
Named L (deliver i m) = Unit {0}
Named L (crash who) = Unit {0}
Named L (detect i j) = Unit {0}
Named L (lose from to m) = Unit {0}

module _ (w : Words) where
  -- a log's words are no sets
  deliver-sets : (L : Layout) (i m : ℕ)
      → sets (λ p. later (writes L w (deliver i m)) p (w p)) ≡ act (sets w) (deliver i m)
  unfolding act sets
  deliver-sets L i m =
      record-sets w m (marked i (record_of w m)) (after_deliver i) (sets-delivered i (record_of w m))

  crash-sets : (L : Layout) (who : ℕ) → sets (λ p. later (writes L w (crash who)) p (w p)) ≡ act (sets w) (crash who)
  unfolding act sets
  crash-sets L who =
      λ d. record {
        N = w N;
        mode = w mode;
        count = w count;
        up = λ a. out_one (w up) who a d;
        view = λ a b. has (w (view a)) b;
        message = λ k. record_sets (λ f. w (message k f));
      }

  detect-sets : (L : Layout) (i j : ℕ) → sets (λ p. later (writes L w (detect i j)) p (w p)) ≡ act (sets w) (detect i j)
  unfolding act sets
  detect-sets L i j =
      λ d. record {
        N = w N;
        mode = w mode;
        count = w count;
        up = λ a. has (w up) a;
        view = λ a b. view_path a b d;
        message = λ k. record_sets (λ f. w (message k f));
      }
    where
      view_path : (a b : ℕ)
          → has (cond (eqb i a && true) (without (w (view i)) j) (w (view a))) b
          ≡ cond (eqb i a && eqb j b) false (has (w (view a)) b)
      view_path a b =
          ap (λ t. has (cond t (without (w (view i)) j) (w (view a))) b) (and-true (eqb i a))
          ∙ out_at (λ k. w (view k)) i a j b

-- the group with one message more than m
one_more : ℕ → Sets → Sets
one_more m s = sets_with s (m + 1) s.up s.view s.message

-- what a step writes, on words that hold nothing outside the layout
module _ (L : Layout) (w : Words) (out : (m : ℕ) (f : Field) → (FieldIn L f → ⊥) → w (message m f) ≡ 0) where
  pub written_sets : (s : Step) → Named L s → sets (λ p. later (writes L w s) p (w p)) ≡ act (sets w) s
  unfolding act sets one_more
  written_sets (broadcast who s v) l =
      let m : ℕ = w count in
      let new = fresh_record L (w N) who s v (record_of w m) in
      ap sets (fun_ext (λ p. later_append (in_record m new) (count ≔ (m + 1) ∷ []) p (w p)))
      ∙ ap (one_more m)
      (record-sets w m new (λ _. new_record (w N) who)
      (ap record_sets (fun_ext (fresh-whole L (w N) who s v (record_of w m) l (out m)))
      ∙ sets-fresh (w N) who s v))
  written_sets (send from to m) l =
      record-sets w m (sent from to (record_of w m)) (after_send from to) (sets-sent from to (record_of w m))
  written_sets (receive i from m) l =
      record-sets w m (received (w N) i from (record_of w m)) (after_receive (w N) i from)
      (sets-received (w N) i from (record_of w m))
  written_sets (deliver i m) l = deliver-sets w L i m
  written_sets (crash who) l = crash-sets w L who
  written_sets (detect i j) l = detect-sets w L i j
  written_sets (lose from to m) l =
      record-sets w m (lost from to (record_of w m)) (after_lose from to) (sets-lost from to (record_of w m))

-- ---- a bank's sets

unfoldable pub sets_of : Layout → List ℕ → Sets
sets_of L b = sets (visible L (words L b))

pub sets-after : (L : Layout) (b : List ℕ) (s : Step) → Allowed L b s → sets_of L (after L b s) ≡ act (sets_of L b) s
unfolding sets_of
sets-after L b s a =
    ap sets (seen_after L b s a) ∙ written_sets L (visible L (words L b)) (seen-outside L (words L b)) s (named s a)
  where
    named : (s : Step) → Allowed L b s → Named L s
    named (broadcast who s v) a =
        controller_below L b a.sound who (broadcast_granted L (words L b) s v a.free).there
    named (send from to m) a = tt
    named (receive i from m) a = tt
    named (deliver i m) a = tt
    named (crash who) a = tt
    named (detect i j) a = tt
    named (lose from to m) a = tt
