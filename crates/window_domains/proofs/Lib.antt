pub mod Frames
pub mod Pages
pub mod Begins
pub mod Lent
pub mod Shrinks
pub mod Released
pub mod Kept
pub mod Histories
