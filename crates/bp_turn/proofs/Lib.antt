pub mod Rooms
mod Beginnings
pub mod Forced
mod Turned
