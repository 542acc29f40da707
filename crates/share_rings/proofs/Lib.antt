pub mod Fronts
pub mod Meets
pub mod Scans
