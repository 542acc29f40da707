pub mod Filed
mod Reached
mod Threaded
mod Words
