pub mod Bytes
pub mod Leaves
pub mod Machines
pub mod Made
pub mod Next
pub mod Open
pub mod Sums
