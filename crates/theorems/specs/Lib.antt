pub mod Cases
pub mod Acceptance
pub mod Demand
pub mod PartDrops
pub mod Calls
pub mod Left
pub mod LeafImages
