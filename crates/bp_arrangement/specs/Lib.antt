pub mod Facts
pub mod Swaps
pub mod Arranged
pub mod Tests
