pub mod TableLaws
pub mod FileLaws
pub mod CsvLaws
pub mod Lengths
pub mod FileTextLength
pub mod CsvLength
pub mod Examples
pub mod FileExamples
