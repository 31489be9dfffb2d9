pub mod Extract
pub mod Lines
pub mod Asks
