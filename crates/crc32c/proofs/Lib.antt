pub mod Xor
pub mod Steps
pub mod AtOnce
pub mod Apart
pub mod Slices
pub mod Words
