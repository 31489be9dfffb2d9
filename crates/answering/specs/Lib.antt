pub mod Shown
pub mod Asked
pub mod Kept
pub mod InWords
pub mod Lines
pub mod Session
