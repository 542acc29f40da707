pub mod Fronts
pub mod Lists
pub mod Adding
pub mod Showing
pub mod Publishing
