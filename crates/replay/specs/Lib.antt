pub mod Encoding
pub mod Replayed
pub mod Said
