mod Cut
mod Walked
mod Loaded
