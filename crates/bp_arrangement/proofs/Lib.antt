pub mod Marks
pub mod Digits
pub mod Goings
pub mod Exchanged
pub mod Corners
pub mod Arranging
mod Deciding
mod Denials
mod Heads
mod Worked
