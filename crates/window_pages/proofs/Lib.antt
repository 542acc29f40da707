mod Apart
pub mod Counting
mod Lived
mod Spared
mod Stored
