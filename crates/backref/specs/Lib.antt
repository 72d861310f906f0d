pub mod Reads
pub mod Totals
pub mod ByName
pub mod Plans
pub mod Offs
