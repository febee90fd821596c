-- The definitions of the bench's text, in the order in which to read them.
pub mod Text
pub mod Lines
pub mod Bench
