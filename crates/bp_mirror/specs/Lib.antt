pub mod Mirror
pub mod Mirrored
pub mod Flaws
pub mod Readings
pub mod Systems
pub mod Swaps
pub mod Proves
