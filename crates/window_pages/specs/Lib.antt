pub mod Bytes
pub mod Changed
pub mod Counted
pub mod Known
pub mod Laws
pub mod Lives
pub mod Runs
