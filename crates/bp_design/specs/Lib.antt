pub mod Design
pub mod Searched
pub mod Replayed
pub mod Steadied
