mod Behind
pub mod Counts
mod Differences
mod Homing
mod NewTables
mod Paired
mod PinCounts
mod PinPlaces
mod Pinned
pub mod Places
mod Sums
mod ZerosRoom
mod SetParts
mod NextRuns
