-- The statement: Joined. Entries and Trees serve loops and inner calls.
pub mod Entries
pub mod Trees
pub mod Joined
