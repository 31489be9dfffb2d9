pub mod Text
pub mod Bytes
pub mod Words
pub mod Numerals
pub mod Euros
pub mod Dates
pub mod Hex
pub mod Comments
