-- Laws of sets that belong to no one function.
pub mod Tests  -- two tests at once; one value for one definition
mod Digits  -- a number's binary digits
mod Words  -- the machine's and, or and minus, bit by bit
pub mod Members  -- who is a member after a change
pub mod Counts  -- tests of all numbers below n, and how many pass
pub mod Least  -- the lowest that passes; members that another set has not
