mod Alike
mod Found
mod Paused
mod Rested
mod Sampled
mod Stayed
mod Turned
pub mod Went
