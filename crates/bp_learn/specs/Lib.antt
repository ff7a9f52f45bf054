-- Ended is all that a reader has to believe of this crate.
pub mod Ended
