-- What was broadcast, in order, and that the records of a bank hold it.
use Rattle.std.specs.Prelude.{ℕ, ◌<◌, ◌≡◌, List, [], ◌∷◌, ◌++◌, length, get_or}
use Rattle.bank.specs.Place.{count, message, sender, stamp, value}
use Rattle.bank.specs.Layout.{Layout, words}
use Rattle.refusals.specs.Step.{Step, broadcast, send, receive, deliver, crash, detect, lose}

-- one broadcast: by whom, with which stamp and which value
pub record Said : Type 0 where
  pub who : ℕ
  pub stamp : ℕ
  pub value : ℕ

abbrev pub saying : ℕ → ℕ → ℕ → Said
saying who s v = record { who = who; stamp = s; value = v }

-- what a step broadcasts, and the broadcasts of a list of steps in order
abbrev pub says : Step → List Said
says (broadcast who s v) = saying who s v ∷ []
says (send from to m) = []
says (receive i from m) = []
says (deliver i m) = []
says (crash who) = []
says (detect i j) = []
says (lose from to m) = []

unfoldable pub said : List Step → List Said
said [] = []
said (e ∷ es) = says e ++ said es

-- what the record of message m says
abbrev pub recorded : Layout → List ℕ → ℕ → Said
recorded L b m = saying (words L b (message m sender)) (words L b (message m stamp)) (words L b (message m value))

-- there are as many messages as broadcasts; message m is the m-th of them, counted from 0
pub record HistoryRight (L : Layout) (es : List Step) (b : List ℕ) : Type 0 where
  pub counted : words L b count ≡ length (said es)
  pub kept : (m : ℕ) → m < words L b count → recorded L b m ≡ get_or (said es) m (saying 0 0 0)
