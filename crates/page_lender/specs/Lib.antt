pub mod Calls
pub mod Decisions
pub mod Events
pub mod Histories
pub mod Lender
pub mod Packing
pub mod Slots
