pub mod Shapes
pub mod Given
pub mod Hosts
pub mod Held
pub mod Packets
pub mod Serving
pub mod Heads
pub mod Calls
