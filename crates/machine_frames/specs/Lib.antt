pub mod FrameMap
pub mod InBlocks
pub mod PageLists
pub mod Places
pub mod Regions
pub mod Stored
