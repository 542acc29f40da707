pub mod Imaged
pub mod Paged
pub mod Walked
