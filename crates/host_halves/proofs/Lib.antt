pub mod Freed
pub mod Lent
pub mod Back
pub mod Held
pub mod Others
pub mod Ended
