pub mod Left
pub mod Small
pub mod Worked
