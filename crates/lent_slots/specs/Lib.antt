pub mod Bytes
pub mod Fits
pub mod Noted
pub mod Slots
pub mod Totals
pub mod Tags
