-- What holds of every step, of every run and of every sequence of calls, as statements, in the order in which to read
-- them.
pub mod Above
pub mod Runs
pub mod Logs
pub mod History
pub mod Demand
pub mod Settler
pub mod Demand3
pub mod Spoilt
pub mod Calls
pub mod CallsFromC
pub mod Table
pub mod Witness
