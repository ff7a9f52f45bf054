pub mod State
pub mod Steps
pub mod Facts
pub mod Lawful
pub mod Runs
pub mod Orderly
