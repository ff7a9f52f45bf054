-- What a user must believe: what a board, a pass and a note are seen as and what each call does to them, which side is the least, and when a
-- pass is spent. `Side`, `Tickets` and `Halt` hold the rule of each table too, which every step keeps.
pub mod Board
pub mod Side
pub mod Tickets
pub mod Halt
-- What serves inner calls and loops alone: sums over entries, seats, and how a board, a pass and a note are kept.
pub mod Entries
pub mod Seats
pub mod Passes
pub mod Notes
pub mod Boards
