mod Worked
pub mod Tested
pub mod Joined
pub mod Kept
pub mod Claims
pub mod Reading
pub mod Visiting
pub mod Judging
pub mod Reasoning
pub mod Right
pub mod Deciding
pub mod Taking
pub mod Sheets
pub mod Intakes
pub mod Ending
pub mod Sources
pub mod HeldLines
mod Named
