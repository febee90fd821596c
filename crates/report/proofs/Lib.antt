-- Laws that belong to no one function.
-- ---- printing
pub mod Printing  -- one text after another; from the start
pub mod Decimals  -- a number in decimal is std's text of it
pub mod Lengths  -- how long the report is at the most
pub mod Rows  -- lines and log entries one after another
-- ---- the bench
pub mod Playing  -- one record; the records from a place on; a fit bank stays fit
pub mod Reporting  -- which of the three reports it is; a bank that is printed is fit; how long the report is
pub mod Determined  -- what the promise allows is one report
pub mod Example  -- the paper's worked example, by computing
