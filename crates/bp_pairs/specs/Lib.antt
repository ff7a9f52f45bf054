-- The statement: Numbers, Sets, Flaws. No file serves loops alone.
pub mod Numbers
pub mod Sets
pub mod Flaws
