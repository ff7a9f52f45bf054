mod Steps
mod Names
pub mod Bags
pub mod Pieces
