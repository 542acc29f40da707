pub mod Known
pub mod Sent
pub mod Prints
pub mod Refusals
