-- The copy of a message from one controller to another: it is always in one of five places, and moves on from there.
use mathlib.Core.Path.{◌≡◌, refl}
use mathlib.Core.Bool.{Bool, true, false, cond, not, ◌&&◌, false≢true}

-- of the two controllers: are they up, do they hold the message; of the copy: is it unsent, in flight, acked
pub data Copy (up_from up_to : Bool) : (held_at_from held_at_to unsent in_flight acked : Bool) → Type 0 where
  none : {g : Bool} → Copy up_from up_to false g false false false
  waiting : {g : Bool} → Copy up_from up_to true g true false false
  flying : {g : Bool} → Copy up_from up_to true g false true false
  arrived : Copy up_from up_to true true false false true
  -- lost, or never to be sent
  gone : {g : Bool} → (up_from ≡ true → up_to ≡ true → ⊥) → Copy up_from up_to true g false false false

-- ---- what is known of it

pub unsent-held : {u v h g f a : Bool} → Copy u v h g true f a → h ≡ true
unsent-held waiting = refl

pub acked_from : {u v h g x f : Bool} → Copy u v h g x f true → h ≡ true
acked_from arrived = refl

pub acked-at : {u v h g x f : Bool} → Copy u v h g x f true → g ≡ true
acked-at arrived = refl

pub apart : {u v h g f a : Bool} → Copy u v h g true f a → f ≡ false
apart waiting = refl

pub live : {g a : Bool} → Copy true true true g false false a → a ≡ true
live arrived = refl
live (gone d) = absurd (d refl refl)

-- ---- how it moves on

pub sent : {u v h g f a : Bool} → Copy u v h g true f a → Copy u v h g false true a
sent waiting = flying

pub received : {u v h g x a : Bool} → g ≡ true → Copy u v h g x true a → Copy u v h g x false true
received e (flying {g = true}) = arrived
received e (flying {g = false}) = absurd (false≢true e)

pub lost : {u v h g x a : Bool} → (u ≡ true → v ≡ true → ⊥) → Copy u v h g x true a → Copy u v h g x false a
lost d flying = gone d

-- a controller goes down
pub down : {u v h g x f a : Bool} (u' v' : Bool) → (u' ≡ true → u ≡ true) → (v' ≡ true → v ≡ true)
    → Copy u v h g x f a → Copy u' v' h g x f a
down u' v' p q none = none
down u' v' p q waiting = waiting
down u' v' p q flying = flying
down u' v' p q arrived = arrived
down u' v' p q (gone d) = gone (λ a b. d (p a) (q b))

-- where `e` says so, the first controller begins to hold: it must send to all, of which the other is one if `l` says so
pub held_from : {u v h g x f a : Bool} (e l : Bool) → (v ≡ true → l ≡ true) → Copy u v h g x f a
    → Copy u v (cond e true h) g (cond (e && (not h && l)) true x) f a
held_from false l k c = c
held_from true true k none = waiting
held_from true false k none = gone (λ a b. false≢true (k b))
held_from true l k waiting = waiting
held_from true l k flying = flying
held_from true l k arrived = arrived
held_from true l k (gone d) = gone d

pub held_to : {u v h g x f a : Bool} (e : Bool) → Copy u v h g x f a → Copy u v h (cond e true g) x f a
held_to false c = c
held_to true none = none
held_to true waiting = waiting
held_to true flying = flying
held_to true arrived = arrived
held_to true (gone d) = gone d

-- a message just broadcast
pub begun : {u v g : Bool} (e l : Bool) → (v ≡ true → l ≡ true) → Copy u v e g (e && l) false false
begun false l k = none
begun true true k = waiting
begun true false k = gone (λ a b. false≢true (k b))
