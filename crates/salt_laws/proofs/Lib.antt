mod Hiding
mod Listed
mod Requests
mod Apart
