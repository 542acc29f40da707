pub mod Works
pub mod Lines
pub mod Texts
pub mod Views
pub mod Order
pub mod Served
