-- The statement: Moves, Twins, Settled. Exchanges serves loops and inner calls.
pub mod Moves
pub mod Twins
pub mod Exchanges
pub mod Settled
