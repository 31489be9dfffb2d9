pub mod Releasable
pub mod Examples
