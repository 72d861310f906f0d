pub mod Differing
pub mod Walks
pub mod Products
