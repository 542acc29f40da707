pub mod Stored
pub mod Cuts
pub mod Lines
pub mod Written
pub mod Asked
pub mod Heads
pub mod Rereads
pub mod Entered
