pub mod Headers
pub mod Requests
pub mod Asked
pub mod Texts
pub mod Views
pub mod Printed
pub mod Written
