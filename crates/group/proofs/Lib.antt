-- Laws that belong to no one function; other crates cite them.
-- ---- a step's writes
pub mod Taking  -- a step that nothing refuses is allowed; one that is known by its kind is one that is asked for
pub mod Fresh  -- a record just broadcast, word by word
pub mod Changes  -- what each changes in one record
pub mod WritesIn  -- they stand in the layout; what a place holds after them
pub mod Kept  -- they leave a fit bank fit
-- ---- the calls
pub mod Demand2  -- what the rules allow is done, and what is done they allow
pub mod Determined  -- what each promise allows is one answer
