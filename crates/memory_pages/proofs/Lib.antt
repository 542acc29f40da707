pub mod Made
pub mod Splits
