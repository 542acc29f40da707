pub mod Handles
pub mod Shapes
pub mod Statuses
pub mod Totals
