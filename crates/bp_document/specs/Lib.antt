-- What a user must believe: a document's ranges and its text, the forms of lines and the places at which they stand, the faults and their
-- order, what lines tell, and when a text is short; what the calls of a `Scanner` answer, in the words of the stages of reading.
pub mod Lines
pub mod Ranges
pub mod Text
pub mod Sizes
pub mod Nodes
pub mod Forms
pub mod Places
pub mod Faults
pub mod Told
pub mod Stages
pub mod Scanning
-- What serves inner calls and loops alone: the words of lines, the steps of stages, the refutation that is built, and the lines of bytes.
pub mod Words
pub mod NodeWords
pub mod FormWords
pub mod Feeding
pub mod Built
pub mod Reading
