pub mod Frames
pub mod Settles
