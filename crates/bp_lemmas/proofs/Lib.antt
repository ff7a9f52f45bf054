pub mod Told
pub mod Hinted
pub mod Law
pub mod Trees
mod Worked
