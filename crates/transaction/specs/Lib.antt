pub mod Held
pub mod Drops
pub mod Keyed
pub mod Shared
