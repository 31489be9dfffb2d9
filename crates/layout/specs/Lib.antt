pub mod Parts
pub mod Files
pub mod RowLaws
pub mod Book
pub mod Words
pub mod WellFormed
