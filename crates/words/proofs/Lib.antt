pub mod Scans
pub mod WordLaws
pub mod NumberLaws
pub mod EuroLaws
pub mod DateWords
pub mod HexLaws
pub mod CommentLaws
pub mod ReferenceLaws
