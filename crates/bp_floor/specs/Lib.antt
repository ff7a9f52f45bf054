-- The statement: bp_metric's Floor, and Small. Best and Lists serve loops and inner calls.
pub mod Small
pub mod Best
pub mod Lists
