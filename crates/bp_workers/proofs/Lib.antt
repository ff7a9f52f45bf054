mod Lists
mod Underway
mod Beginnings
mod Steps
mod Joined
mod Turned
mod Taking
mod Examined
mod Placing
mod Settling
mod Merged
mod Worked
pub mod Seating
mod Returning
