pub mod Asks
pub mod Copies
pub mod Holds
pub mod Lists
pub mod Loans
pub mod Releases
