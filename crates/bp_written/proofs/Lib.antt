mod Weights
pub mod PathPairs
pub mod NodeParts
mod SameNodes
pub mod FoundNodes
pub mod GoodNodes
pub mod ShownCounts
pub mod Covered
pub mod Bounds
pub mod Documents
