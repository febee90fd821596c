-- Laws that belong to no one function; other crates cite them.
-- ---- a step's rules
pub mod StepRules  -- their numbers; a step that none of them refuses is allowed
pub mod Granted  -- what they grant, each fact by its name
pub mod Bounds  -- a controller and a message that are there have a place
pub mod Lowest  -- the lowest number that applies is given
pub mod DeliveryTest  -- the delivery test as four laws, and what follows from them alone
pub mod Accepted  -- a step that is not refused was asked for, in a fit bank, and is allowed
pub mod SameSteps  -- the code's steps are the definitions'
-- ---- the calls
pub mod Deciding  -- what a test decides; pages of docs name these
pub mod Determined  -- what each promise allows is one answer
