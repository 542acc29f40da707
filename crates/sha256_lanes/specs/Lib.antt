pub mod Lanes
pub mod Hashes
pub mod Schedules
