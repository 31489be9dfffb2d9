pub mod Items
pub mod ByBook
pub mod State
pub mod Lines
pub mod Printed
