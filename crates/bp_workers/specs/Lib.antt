-- What a user must believe: when a worker agrees with a tree and a board (`Agrees`, by `Worked`), and what holds once all hands are back
-- (`Gathered`).
pub mod Worked
pub mod Agrees
pub mod Gathered
-- What serves inner calls and loops alone: what a turn comes to, and all workers together.
pub mod Turns
pub mod Teams
