pub mod Lists
pub mod InBlocks
pub mod Places
pub mod Used
mod FirstRooms
mod Crossing
