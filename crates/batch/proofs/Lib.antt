pub mod ByteLaws
pub mod PairLaws
pub mod PartLaws
pub mod CheckLaws
