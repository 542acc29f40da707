pub mod Works
pub mod Bodies
pub mod Lists
pub mod Turns
pub mod Runs
pub mod Replies
