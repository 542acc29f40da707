pub mod Found
pub mod Meets
pub mod Reflected
pub mod Tried
