pub mod Maps
pub mod Pairs
pub mod Keyed
pub mod Chained
pub mod Tables
pub mod Kept
pub mod Counted
