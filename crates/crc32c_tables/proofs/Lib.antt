pub mod Arms
pub mod Array
pub mod Sixteen
