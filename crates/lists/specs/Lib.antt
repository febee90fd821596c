-- The definitions of lists and logs.
pub mod Lists
pub mod Logs
