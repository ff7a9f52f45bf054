-- All of these are what a user must believe: lines, numbers, and what a call that writes leaves.
pub mod Lines
pub mod Numbers
pub mod Puts
