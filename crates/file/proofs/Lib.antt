-- Laws that belong to no one function; other crates cite them.
pub mod Finding  -- what stands at a place, test by test; a record moves on and stays within the file
pub mod Determined  -- what each promise allows is one answer
