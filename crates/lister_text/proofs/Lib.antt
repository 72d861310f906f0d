pub mod Fields
pub mod Texts
pub mod Listings
pub mod Example
