pub mod Doing
pub mod Finishing
pub mod Fronts
pub mod Observing
pub mod Showings
