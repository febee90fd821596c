-- Laws that belong to no one function; other crates cite them.
-- ---- the search
pub mod First  -- the first step of a list that passes: joined lists, rows, a row that a set word decides
pub mod Free  -- when nothing refuses a candidate, by the words that decide it, and what a row of them comes to
pub mod Taking  -- the step that the search hands over is the bank's next, and allowed
pub mod Mapped  -- what `find_map` over a range comes to, and `or_else`
-- ---- the settling
pub mod Endings  -- how an ending goes over one step, and what it tells
pub mod Determined  -- what the promise allows is one ending
