-- The statement: Solved. Steps says what the calls inside hand to one another.
pub mod Solved
pub mod Steps
