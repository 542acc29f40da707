pub mod Sessions
pub mod Kept
