pub mod Chains
pub mod Halved
pub mod Notes
