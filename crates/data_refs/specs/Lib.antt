pub mod Triples
pub mod Keys
pub mod Chains
