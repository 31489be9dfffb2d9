pub mod Bytes
pub mod Batch
pub mod FormLaws
pub mod Parts
