pub mod Spans
pub mod Ranks
pub mod Tally
pub mod Groups
