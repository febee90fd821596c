-- Laws of lists and logs; other crates cite them.
pub mod StepByStep  -- a list of steps, one at a time
pub mod Asking  -- a question about a log
pub mod Determined  -- what each promise allows is one answer
