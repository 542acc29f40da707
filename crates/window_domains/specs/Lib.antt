pub mod Agreement
pub mod Calls
pub mod Histories
pub mod Example
