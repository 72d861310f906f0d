pub mod Writes
pub mod Held
pub mod Places
pub mod Stands
pub mod Searches
