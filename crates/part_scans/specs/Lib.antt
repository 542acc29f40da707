pub mod Scans
pub mod Seen
