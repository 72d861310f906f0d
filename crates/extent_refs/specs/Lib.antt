pub mod Exports
pub mod Posts
