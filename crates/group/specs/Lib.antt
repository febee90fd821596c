-- The definitions of the group's steps, in the order in which to read them.
pub mod Writes
pub mod Promises
pub mod Demand2
