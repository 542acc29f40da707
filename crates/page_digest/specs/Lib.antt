pub mod Hashes
pub mod Many
pub mod Parts
