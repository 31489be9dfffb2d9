pub mod Decimals
pub mod Hex
pub mod Lines
pub mod Columns
pub mod Dates
pub mod Written
pub mod WrittenLaws
pub mod Answers
