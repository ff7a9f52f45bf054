pub mod Words
pub mod Numbers
pub mod Pieces
pub mod Inputs
pub mod Replies
pub mod Slots
pub mod Texts
pub mod Batch
