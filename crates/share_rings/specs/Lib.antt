pub mod Closing
pub mod Ends
pub mod Faults
pub mod Meet
pub mod Numbers
