pub mod Texts
pub mod Known
pub mod Kept
pub mod Locks
