-- write_fresh: zeros and five words over them are the record written field by field.
use Rattle.std.proofs.Common.{ℕ, ◌≡◌, ◌<◌, List, length}
use mathlib.Core.Path.{sym, ap, ◌∙◌}
use native.Mathlib.Omega.{arith}
use Prim.Native.Nat.{min}
use lib.ListN.{set, replicate}
use Rattle.sets.specs.Set.{with, all_below}
use Rattle.sets.proofs.Members.{join-with}
use Rattle.bank.proofs.Rooms.{few}
use Rattle.bank.specs.Place.{unsent}
use Rattle.bank.specs.Layout.{Layout, layout, record_size, offset, changed}
use Rattle.bank.proofs.Fields.{whole_record}
use Rattle.group.specs.Writes.{fresh, fresh_record}
use Rattle.group.proofs.Fresh.{five_words}
use Rattle.group.proofs.record.write_fresh.Goals as goal

-- the five stores, over a record that was cleared
written : (L : Layout) (n who s v : ℕ) (b z : List ℕ) (j a u : ℕ) → who < L.controllers → length b ≡ record_size L
    → z ≡ replicate (length b) 0 → j ≡ with 0 who → a ≡ all_below n → u ≡ offset L (unsent who)
    → set (set (set (set (set z 0 who) 1 s) 2 v) 3 j) u a ≡ changed L (fresh_record L n who s v) b
written L n who s v b z j a u h l zeros mine all at =
    rw (zeros, mine, all, at, l) (five_words L n who s v h ∙ sym (whole_record L (fresh n who s v) b l))

pub returns : goal.returns
returns g c =
    let z = g.R.Room.room in
    let n : ℕ = c.args.n in
    let who : ℕ = c.args.who in
    let h : who < 16 = omega (arith, few z) in
    let all : min n 16 ≡ n = omega (arith, few z) in
    written (layout z) n who c.args.s c.args.v _ _ _ _ _ (omega arith) (omega arith) c.clear.ensures
    (c.join.ensures ∙ join-with 0 who h)
    (c.all_below.ensures ∙ ap all_below all)
    c.unsent_at.ensures
