pub mod Ends
pub mod Replayed
