pub mod Systems
pub mod Knowledge
pub mod Hints
pub mod Standing
pub mod Trees
pub mod Proves
