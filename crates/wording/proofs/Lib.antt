pub mod WordingLaws
pub mod WordLaws
pub mod Examples
