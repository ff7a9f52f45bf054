-- What a user must believe: which tasks a pool takes (`IsTaskOf`), what a hand is seen as, what a try and a take say of their counts, tasks and
-- deques, and the hands of a new pool (`IsNewPool`). What `gather` answers is said in its own clauses, by bags. `Shares` holds the rule of a
-- deque too, which every step keeps.
pub mod Shares
pub mod Rest
pub mod Tries
pub mod Hands
pub mod Opens
-- What serves inner calls and loops alone: how a hand is kept, deques in memory, and how all hands come back.
pub mod Rounds
pub mod Kept
pub mod Mem
pub mod Memory
pub mod Rows
