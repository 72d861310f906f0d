pub mod Own
pub mod OwnItems
pub mod Alsos
pub mod Adding
pub mod Dropping
pub mod Postings
