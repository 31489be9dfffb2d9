pub mod RowLaws
pub mod GuaranteeLaws
pub mod CallLaws
pub mod KeptLaws
pub mod Session
pub mod OwnNumbers
pub mod ParsedLines
pub mod ParsedFile
