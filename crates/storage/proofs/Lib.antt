pub mod Blanks
pub mod Modes
pub mod Names
pub mod Numbers
