pub mod Beside
pub mod Fits
pub mod Known
