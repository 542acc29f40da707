pub mod Values
pub mod Bytes
pub mod Cuts
pub mod Lines
pub mod Fails
pub mod Spelled
