mod Deques
mod Tried
mod Hands
mod Mems
mod Opens
mod Makes
mod Lays
mod Rows
mod Parts
pub mod Ordered
