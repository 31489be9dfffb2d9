pub mod Numbers
pub mod Stretches
pub mod Replaying
