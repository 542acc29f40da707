pub mod Owning
pub mod PageCounts
pub mod Wholes
