-- The definitions of the bank, in the order in which to read them.
pub mod Place
pub mod Layout
pub mod Rooms
pub mod Fit
pub mod Rules
pub mod Opening
