pub mod Machine
pub mod Tolerance
pub mod Totals
pub mod Each
pub mod Sums
pub mod Calls
pub mod Listed
