pub mod Listed
pub mod Ended
pub mod Serving
