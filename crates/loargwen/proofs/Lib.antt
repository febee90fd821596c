-- Laws that belong to no one function; other crates cite them.
-- ---- bytes and words
pub mod Crossing  -- what stands where after crossing; there and back changes nothing
pub mod Made  -- an array of what a closure answers at each index
pub mod Refused  -- a call that is refused leaves the bytes
-- ---- the calls
pub mod Kept  -- a refusal leaves every byte; else the next call reads the new bank
pub mod Determined  -- what each promise allows is one answer
