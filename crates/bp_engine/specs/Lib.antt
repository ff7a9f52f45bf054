-- What `run` promises, which whoever relies on it reads: Run, and what it names: Designs, Solves, Checking, Verifying, Revising, Documents, Drawings, Making, Trials, Pages, Reading, Texts.
pub mod Run
pub mod Designs
pub mod Solves
pub mod Checking
pub mod Verifying
pub mod Revising
pub mod Documents
pub mod Drawings
pub mod Making
pub mod Trials
pub mod Pages
pub mod Reading
pub mod Texts
-- For inner calls alone.
pub mod Outcomes
