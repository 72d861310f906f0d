pub mod ItemWrites
pub mod Steps
pub mod Seeks
