pub mod Packing
pub mod Leaves
pub mod Puts
pub mod ImageReads
pub mod Written
pub mod Asked
