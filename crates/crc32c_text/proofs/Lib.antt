pub mod Lines
pub mod Example
