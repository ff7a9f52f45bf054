mod Alike
pub mod Disjoint
mod Ends
mod Rows
mod Worked
