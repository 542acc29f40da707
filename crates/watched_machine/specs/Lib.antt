pub mod Reports
pub mod Counting
pub mod Showing
pub mod Lists
pub mod Published
pub mod Watching
pub mod View
pub mod Publishing
