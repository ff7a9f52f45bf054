-- What the types of this crate keep and promise: Limits, Name, Tree, Point, Causes, Reading, Path, Chain and Bags. Padded alone serves the
-- code within: how a name lies in memory.
pub mod Limits
pub mod Name
pub mod Tree
pub mod Point
pub mod Causes
pub mod Reading
pub mod Padded
pub mod Path
pub mod Chain
pub mod Bags
pub mod Generator
pub mod Turns
