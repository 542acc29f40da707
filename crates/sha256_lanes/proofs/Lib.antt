pub mod Lanes
pub mod Bits
pub mod Words
pub mod Messages
pub mod Shuffles
