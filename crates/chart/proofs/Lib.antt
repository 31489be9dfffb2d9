pub mod Rounding
pub mod Pieces
pub mod Examples
