-- The definitions of the day tally, in the order in which to read them.
pub mod Days
pub mod Tallies
pub mod Answer
pub mod Season
