pub mod Months
pub mod Entries
pub mod Lines
pub mod Openings
pub mod Calls
