pub mod ItemWrites
pub mod Steps
pub mod Walks
pub mod Reading
pub mod Positions
pub mod Behind
pub mod Spaces
