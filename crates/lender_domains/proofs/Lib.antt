mod Believed
mod Freed
mod Lists
mod Loaned
