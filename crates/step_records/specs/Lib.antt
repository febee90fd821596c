-- The definitions of lists of step records.
pub mod Records
