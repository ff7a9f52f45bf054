-- What this crate answers is stated by bp_metric's Coordinates. Both files here serve loops and inner calls, Lows also those of
-- bp_warm.
pub mod Steps
pub mod Lows
