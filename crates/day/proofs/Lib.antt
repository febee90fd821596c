-- Laws that belong to no one function; other crates cite them.
-- ---- one question
pub mod Days  -- which day owns a stamp
pub mod Asking  -- which test of a question decides, and the tally from one entry on
pub mod Determined  -- what each promise allows is one answer
-- ---- the season
pub mod Sums  -- sums over a list
pub mod Season  -- each entry is counted in exactly one day
