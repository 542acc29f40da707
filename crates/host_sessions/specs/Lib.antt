pub mod Table
pub mod Turns
pub mod Steps
pub mod Ends
pub mod Made
pub mod Others
pub mod Replies
pub mod Own
