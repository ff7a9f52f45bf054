pub mod Breaks
pub mod Cells
pub mod Tied
pub mod Shown
pub mod Applied
pub mod Closing
pub mod Roots
pub mod Feeding
