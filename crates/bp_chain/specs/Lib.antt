-- What this crate answers is stated by bp_metric's Chains and Nodes. Counting serves an inner call, and the condition of `counted`.
pub mod Counting
