pub mod Itemising
pub mod DaysKept
pub mod Collecting
pub mod LineLaws
pub mod StatedLaws
pub mod Going
pub mod Lengths
pub mod Examples
