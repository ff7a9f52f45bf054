mod After
mod Ahead
mod Assembled
mod Corners
mod Directed
pub mod Exact
mod Followed
pub mod Known
mod Listing
mod Plain
mod Plane
pub mod Scaled
mod Stretches
pub mod Tables
mod Unique
mod Touring
mod Worked
