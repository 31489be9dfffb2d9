pub mod Table
pub mod FileText
pub mod Csv
