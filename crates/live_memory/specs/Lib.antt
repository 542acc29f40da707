pub mod Fields
pub mod Ranges
pub mod Mappings
pub mod Details
pub mod Maps
pub mod Choices
pub mod PageMaps
pub mod Opened
