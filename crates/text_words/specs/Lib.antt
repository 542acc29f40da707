pub mod Words
pub mod Cursor
pub mod Lines
pub mod Views
pub mod Printed
pub mod Expected
