-- The statement: bp_metric's Opening, and Small. Sums serves loops and inner calls.
pub mod Small
pub mod Sums
