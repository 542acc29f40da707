pub mod Chained
pub mod Held
