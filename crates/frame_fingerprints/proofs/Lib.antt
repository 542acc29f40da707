pub mod Paths
pub mod Nodes
pub mod Search
pub mod Changes
