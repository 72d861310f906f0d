pub mod Refs
