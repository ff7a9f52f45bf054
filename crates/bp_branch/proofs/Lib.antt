mod Best
mod Branches
mod Ordered
mod NextPairs
pub mod Picked
pub mod Solved
