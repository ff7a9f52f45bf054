pub mod Read
pub mod Orders
pub mod Symmetric
pub mod Tied
pub mod Exchanging
pub mod Bounding
mod Worked
