-- The statement: Keep, Start, Revised. Apart and Course serve loops and inner calls.
pub mod Keep
pub mod Start
pub mod Revised
pub mod Apart
pub mod Course
