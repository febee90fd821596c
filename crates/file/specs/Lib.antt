-- The definitions of the bench's file, in the order in which to read them.
pub mod Records
pub mod Kinds
pub mod Promises
