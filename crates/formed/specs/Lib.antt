pub mod Decides
pub mod Checks
