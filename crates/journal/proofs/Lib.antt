pub mod FieldLaws
pub mod ListLaws
pub mod BatchLaws
pub mod LineLaws
pub mod Examples
pub mod Room
pub mod Counts
