pub mod Merges
pub mod Texts
