pub mod Bounds
pub mod Laws
pub mod NumberLaws
pub mod Numbers
pub mod Pieces
pub mod Tables
