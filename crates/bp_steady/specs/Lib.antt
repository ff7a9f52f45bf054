-- The statement: Bounds, Questions, Sums. Searching and Stack serve loops and inner calls.
pub mod Bounds
pub mod Questions
pub mod Sums
pub mod Searching
pub mod Stack
