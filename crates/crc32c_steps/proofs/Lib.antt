pub mod Entries
pub mod Rows
pub mod Steps
