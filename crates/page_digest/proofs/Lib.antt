pub mod Padding
pub mod Hashed
pub mod Eights
