mod Steps
pub mod Trails
mod Done
mod OneLeast
pub mod Fine
pub mod LeastThere
