-- The definitions of the C face, in the order in which to read them.
pub mod Bytes
pub mod Face
pub mod Answers
pub mod OnWords
