pub mod View
pub mod Frames
pub mod Settling
pub mod Unsettled
