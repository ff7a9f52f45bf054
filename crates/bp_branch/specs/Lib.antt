-- The statement: Outcomes, Branches, and the list of all pairs in Orders. Nearest serves loops and inner calls.
pub mod Nearest
pub mod Outcomes
pub mod Branches
pub mod Orders
