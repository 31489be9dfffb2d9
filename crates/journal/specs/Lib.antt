pub mod Names
pub mod Fields
pub mod Grammar
pub mod Steps
pub mod Faults
