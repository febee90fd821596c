-- The laws of the bank; other crates cite them.
-- ---- where words stand
pub mod Regions  -- regions laid one after another: every word is one spot
pub mod Places  -- the places of a layout lie in the bank, and no two are one word
pub mod Names  -- two names of one place are one name
pub mod EveryWord  -- the places are the words
-- ---- reading and writing
pub mod Reading  -- reading after writing, one law for every list of writes
pub mod Lending  -- writes in a lent record are writes in the bank
pub mod Fields  -- a record written field by field is the list of its words
pub mod Rooms  -- what holds of either size
-- ---- fitness and opening
pub mod Rules  -- lists of tests with numbers
pub mod Views  -- a size in range, and the views of an opening
pub mod InLayout  -- opening writes to places of the layout
pub mod Fitness  -- the test of a bank and its facts; opening makes a fit one
pub mod Determined  -- what each promise allows is one answer
