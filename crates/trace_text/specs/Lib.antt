pub mod Lines
pub mod Texts
pub mod Plays
pub mod Printed
