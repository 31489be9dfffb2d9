pub mod Scale
pub mod Marks
pub mod Ticks
pub mod Picture
