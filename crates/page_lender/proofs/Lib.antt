mod Decided
mod Histories
pub mod Kept
mod Ordered
pub mod Outcomes
mod Slots
mod Unseen
mod Wrong
