pub mod Bytes
pub mod Laws
pub mod Memory
pub mod Orders
pub mod RowLaws
pub mod Rows
pub mod Steps
