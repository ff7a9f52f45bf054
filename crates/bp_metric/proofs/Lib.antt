pub mod Chains
pub mod Cycles
pub mod Distances
pub mod Leaves
pub mod Lows
pub mod Ranges
pub mod Refutations
pub mod Regions
mod Rows
pub mod Sampled
pub mod Shown
pub mod Stars
mod Tables
pub mod TwoFlaps
