pub mod Amounts
pub mod FleetParts
pub mod Reclaimed
pub mod Shares
pub mod HostSums
