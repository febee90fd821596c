-- What holds of every step, of every run and of every sequence of calls. The story goes from sets, where demand 3 is
-- argued, over the bridge from words, to banks, to the settler and to callers: docs/ARCHITECTURE.md tells it.
-- ---- one step, on words
pub mod Untouched  -- what a step does not write stays, by kind of place
pub mod Whole  -- a record written whole, word by word
pub mod Broadcast  -- a broadcast, word by word
-- ---- set bits of N and above
pub mod Above  -- no step changes one, save a broadcast in its own record
pub mod Unread  -- no step reads one
pub mod UnreadCalls  -- no call reads one
pub mod NeverAbove  -- an opened group has none
pub mod SetWords  -- which words are sets: those that a step changes by one controller
pub mod JustAbove  -- in what banks that are the same below N may differ
-- ---- any states, any steps
pub mod Onward  -- runs that follow one another; the kinds of step that settle
pub mod OneEnd  -- where steps change places, all finished runs are equally long and end alike
-- ---- on sets: one end, agreement, validity
pub mod Sets  -- a group as sets, what each step makes of them and what allows it
pub mod Gathered  -- the word that gathers a set
pub mod Enough  -- the delivery test of sets, by the four laws of it in refusals
pub mod Cells  -- one member changes and the others stay
pub mod Copies  -- the five places of a copy
pub mod Keep  -- what every step keeps
pub mod Meet  -- two settling steps on one message
pub mod Swap  -- any two settling steps change places
pub mod End  -- where no settling step is left: agreement and validity
-- ---- on sets: the bounds
pub mod Sums  -- sums of one number for each i below n
pub mod Weights  -- the most steps that one message has before it
pub mod Work  -- the most that a group has, opened or spoilt
pub mod Budget  -- both bounds rise, up to those of a full bank
-- ---- the bridge: a step of a bank is that step of its sets
pub mod Visible  -- a bank's words as one function of places
pub mod Written  -- what writes leave in one record and in the rest
pub mod Bridge  -- from words to sets, write by write
pub mod Steps  -- each allowed step
pub mod Allowing  -- what one allows the other does
pub mod Opened  -- a bank just opened
pub mod Lifting  -- runs
-- ---- on banks: every moment
pub mod Reached  -- what opening writes, and what every step keeps
pub mod Entries  -- a log's used part, entry by entry
pub mod Listing  -- a log that lists the numbers that pass a test
pub mod Logs  -- each log lists what was delivered there
pub mod History  -- each record holds what its broadcast said
pub mod Unrefused  -- nothing is refused by 1
pub mod Tallied  -- nor a tally for a stray entry
-- ---- on banks: later moments, and the end
pub mod Past  -- what settling leaves alone, and what any step leaves of a log
pub mod Stays  -- what every later moment keeps
pub mod Ends  -- one end for every order
pub mod OnlyOrder  -- alike ends differ in the order inside the logs and in nothing else
pub mod Agreement  -- agreement and validity, in the logs
-- ---- the settler
pub mod Candidates  -- its list: every settling step, in turn
pub mod Choice  -- the step that it takes next
pub mod Turns  -- it takes its steps in turn
pub mod Settler  -- its steps are a run, and its budget suffices
pub mod Telling  -- what its answer tells of every order
pub mod Spoilt  -- it ends on every fit bank
-- ---- demand 3, and callers
pub mod Demand3  -- demand 3, whole
pub mod Listed  -- the steps that an answer tells of
pub mod Calls  -- any calls, on words
pub mod CallsFromC  -- on a bank's bytes
-- ---- the paper's cases
pub mod Table  -- computed
pub mod Witness  -- the worked example, from demand 3
