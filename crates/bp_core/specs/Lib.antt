pub mod Settled
pub mod Underway
