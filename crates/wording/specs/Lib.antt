pub mod WrongWord
pub mod Wording
