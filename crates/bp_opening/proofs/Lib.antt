pub mod Exists
pub mod Firsts
pub mod Orders
pub mod Packing
pub mod Unique
