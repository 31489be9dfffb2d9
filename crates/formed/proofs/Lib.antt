pub mod Decided
pub mod PartLaws
pub mod SoundLaws
pub mod FileChecks
pub mod BookChecks
