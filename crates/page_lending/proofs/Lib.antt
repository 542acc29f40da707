pub mod Written
pub mod Stores
mod Later
