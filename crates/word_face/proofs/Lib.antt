-- Laws that belong to no one function.
pub mod Copying  -- a copy as far as both slices reach
pub mod Determined  -- what the promise allows is one length and one buffer
