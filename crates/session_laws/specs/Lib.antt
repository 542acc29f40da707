pub mod World
pub mod Sound
pub mod Laws
