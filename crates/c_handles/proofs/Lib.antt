pub mod Parcels
pub mod Held
