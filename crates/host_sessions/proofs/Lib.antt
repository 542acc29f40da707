pub mod Loops
pub mod Spared
pub mod Gained
pub mod Apart
pub mod Stay
pub mod Own
pub mod Emptied
