pub mod Samples
pub mod Counted
