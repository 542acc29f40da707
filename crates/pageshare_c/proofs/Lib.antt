pub mod Accesses
pub mod Finds
pub mod Loans
pub mod Groups
mod Tellings
