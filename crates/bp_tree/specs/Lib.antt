-- What a user must believe: the words of lines, the edges of a tree, both forms, the tree of bytes and its canonical text,
-- the faults and their order; and what a `Grower` answers.
pub mod Lines
pub mod Edges
pub mod Json
pub mod Text
pub mod Faults
pub mod Growing
-- What serves inner calls and loops alone.
pub mod Calls
pub mod Reading
