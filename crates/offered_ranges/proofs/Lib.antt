mod Counted
mod Found
mod Free
mod Outside
mod Removed
