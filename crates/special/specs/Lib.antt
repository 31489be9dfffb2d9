pub mod Ranges
pub mod Ratio
pub mod Causes
pub mod Guarantee
pub mod Best
