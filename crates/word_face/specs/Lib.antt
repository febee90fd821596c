-- What is not in `lists`: a log, copied.
pub mod LogCopy
