-- The definitions of numbers.
pub mod Numbers
