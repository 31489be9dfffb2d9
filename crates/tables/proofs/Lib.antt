pub mod Examples
pub mod Products
