-- on_words: where the call is refused the bytes stay.
use Rattle.std.proofs.Common.{rules}
use Rattle.loargwen.proofs.Refused.{refused}
use Rattle.loargwen.proofs.bytes.on_words.Goals as goal

pub returns-in-Err : goal.returns-in-Err
returns-in-Err g c = refused _ _ _ c.in-Some.words c.call.new.arg2 _ (search rules) (search rules)
