-- The definitions of sets of controllers.
pub mod Set
