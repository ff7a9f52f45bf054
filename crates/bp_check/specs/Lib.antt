-- What a user must believe: when a document checks, the first reason where it doesn't, what `design` writes, and what a check of a source answers.
pub mod Checks
pub mod Reasons
pub mod Written
pub mod Streams
-- What serves inner calls and loops alone: the same conditions as tests, what is found of nodes and how it becomes a verdict, the stack of
-- open splits, the levels of a proof in memory, and the bytes of a source as they are taken in.
pub mod Tests
pub mod Found
pub mod Verdicts
pub mod Stack
pub mod Levels
pub mod Held
pub mod Intake
