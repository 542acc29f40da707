pub mod View
pub mod Tasks
pub mod Turns
pub mod Fronts
pub mod Showings
pub mod Observed
pub mod Crews
pub mod Runs
