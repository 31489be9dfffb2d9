pub mod EntryLaws
pub mod LineLaws
pub mod FileLaws
pub mod Examples
