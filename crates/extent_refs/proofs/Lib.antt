pub mod Answers
pub mod Postings
pub mod Posts
pub mod Instance
pub mod Texts
