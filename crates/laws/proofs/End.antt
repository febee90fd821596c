-- Where no settling step is left: agreement and validity. And before that: what is delivered is widely held.
use mathlib.Core.Path.{◌≡◌, refl}
use mathlib.Core.Bool.{true, false}
use Prim.Native.Nat.{ℕ, ◌*◌, ◌<◌}
use native.Mathlib.Omega.{arith}
use Rattle.sets.specs.Set.{how_many}
use Rattle.bank.specs.Fit.{all_ack, majority}
use Rattle.refusals.specs.Step.{send, receive, deliver, detect}
use Rattle.laws.specs.Runs.{Ended, Settling}
use Rattle.laws.proofs.Sets.{Sets, enough_of, Ok, Quorate}
use Rattle.laws.proofs.Enough.{enough_grows, enough_meets, quorum, all_trusted, more_than_half}
use Rattle.laws.proofs.Cells.{is_true, is_false}
use Rattle.laws.proofs.Copies.{acked-at, live}
use Rattle.laws.proofs.Keep.{Inv}

-- ---- at every moment

module _ (s : Sets) (h : Inv s) (m i : ℕ) (d : (s.message m).delivered i ≡ true) where
  pub held_by_all_up : s.mode ≡ all_ack → (j : ℕ) → s.up j ≡ true → (s.message m).held j ≡ true
  held_by_all_up e j u =
      all_trusted s.mode s.N s.up (s.message m).held e ((h.sound m).spread i d) j (h.inside j u) u

  pub held_by_most : s.mode ≡ majority → s.N < 2 * how_many (s.message m).held s.N
  held_by_most e =
      more_than_half s.mode s.N s.up (s.message m).held (λ q. omega arith) ((h.sound m).spread i d)

-- ---- at the end

module _ (room : ℕ) (s : Sets) (h : Inv s) (z : Ended (Settling (Ok room)) s) (m : ℕ) (g : m < s.count) where
  -- a holder that is up has reached everybody up
  reached : (a b : ℕ) → (s.message m).held a ≡ true → s.up a ≡ true → s.up b ≡ true → (s.message m).acked b a ≡ true
  reached a b x u v =
      let unsent : (s.message m).unsent a b ≡ false =
      is_false _ (λ e. z (send a b m) (refl, ((h.inside a u, h.inside b v, g), u, e))) in
      let landed : (s.message m).in_flight b a ≡ false =
      is_false _ (λ e. z (receive b a m) (refl, ((h.inside b v, h.inside a u, g), v, e))) in
      live (rw (x, u, v, unsent, landed) at ((h.sound m).copies a b))

  module _ (q : Quorate s) where
    -- the delivery test passes where everybody up has acked: whoever is down is detected
    passes : (b : ℕ) → s.up b ≡ true → ((a : ℕ) → s.up a ≡ true → (s.message m).acked b a ≡ true)
        → enough_of s.mode s.N (s.view b) ((s.message m).acked b) ≡ true
    passes b v k =
        enough_grows s.mode s.N s.up (s.view b) s.up ((s.message m).acked b)
        (λ e a l w. is_true (s.up a) (λ d. z (detect b a) (refl, ((h.inside b v, l), v, (e, d, w)))))
        (λ a _. k a)
        (quorum s q)

    -- what one that is up holds, everybody up has delivered
    everywhere : (a b : ℕ) → (s.message m).held a ≡ true → s.up a ≡ true → s.up b ≡ true
        → (s.message m).delivered b ≡ true
    everywhere a b x u v =
        is_true ((s.message m).delivered b)
        (λ d.
        z (deliver b m) (
          refl,
          ((h.inside b v, g), v, (held b v, d, passes b v (λ c w. reached c b (held c w) w v))),
        ))
      where
        held : (c : ℕ) → s.up c ≡ true → (s.message m).held c ≡ true
        held c w = acked-at (rw (reached a c x u w) at ((h.sound m).copies a c))

    -- a message delivered by any controller, up or down, is delivered by each one up
    pub agreement : (i j : ℕ) → (s.message m).delivered i ≡ true → s.up j ≡ true → (s.message m).delivered j ≡ true
    agreement i j d v =
        let both =
        enough_meets s.mode s.N s.up s.up (s.message m).held j (h.inside j v) v
        (quorum s q)
        ((h.sound m).spread i d) in
        everywhere both.0 j both.3 both.2 v

    -- so is each message whose sender is up
    pub validity : (j : ℕ) → s.up (s.message m).sender ≡ true → s.up j ≡ true → (s.message m).delivered j ≡ true
    validity j u v = everywhere (s.message m).sender j ((h.sound m).own g) u v
