-- The definitions of what refuses a step, in the order in which to read them.
pub mod State
pub mod Step
pub mod Asking
pub mod Delivery
pub mod Refusals
pub mod Promises
