pub mod Lists
pub mod Halves
pub mod Client
pub mod Host
pub mod Kept
pub mod Lost
