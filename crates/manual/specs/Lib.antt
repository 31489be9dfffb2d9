pub mod Minimum
pub mod Charge
pub mod Check
pub mod Largest
pub mod Annual
pub mod Deletion
pub mod Figures
pub mod Laws
