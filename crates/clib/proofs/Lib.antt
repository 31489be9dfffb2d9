pub mod Shown
pub mod Totals
