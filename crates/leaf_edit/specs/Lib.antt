pub mod Division
pub mod Insertions
pub mod Lookups
