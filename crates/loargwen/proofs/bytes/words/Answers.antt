-- Each word is what the closure answers at its index (`made_at`): the number in its two bytes.
use Rattle.std.proofs.Common.{◌≡◌, ℕ, ◌+◌, ◌*◌, arith, rules, get_or}
use Rattle.loargwen.proofs.Crossing.{same_words}
use Rattle.loargwen.proofs.Made.{made_at}
use Rattle.loargwen.proofs.bytes.words.Goals as goal

pub returns : goal.returns
returns g c =
    let IsWord = λ (k w : ℕ). w ≡ get_or c.args.bytes.now (2 * k) 0 + 256 * get_or c.args.bytes.now (2 * k + 1) 0 in
    same_words _ _ (search rules)
    (λ k h. made_at IsWord (λ k w q met. search rules) c.from_fn.ensures.items k (omega arith) 0)
