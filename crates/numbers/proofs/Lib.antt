-- Laws of the numbers; other crates cite them.
pub mod OneAnswer  -- a number stands for one refusal
