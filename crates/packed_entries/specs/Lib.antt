pub mod Entries
pub mod Keys
pub mod Linked
pub mod Packing
pub mod Places
