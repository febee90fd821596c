-- The lemmas of step_records. run_steps' own proof is in run_steps/.
pub mod ByRecord  -- how the answer from a record on goes over that record: what the loop of run_steps keeps
pub mod Same  -- what a caller of run_steps may rest on: the flat form's answers, one answer alone, never 13
