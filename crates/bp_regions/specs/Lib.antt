-- What a user must believe: cells and who owns them, cuts, what regions are seen as; and of outlines and drawings, which are found in the
-- crates above, runs, contours and hinges.
pub mod Cells
pub mod Cuts
pub mod Regions
pub mod Runs
pub mod Contours
pub mod Hinges
-- What serves inner calls and loops alone.
pub mod Balls
