pub mod PartLaws
pub mod GrowthLaws
pub mod BufferLaws
pub mod StreamLaws
pub mod InputStream
pub mod LoadLaws
pub mod LastLine
pub mod ReplayLaws
