-- The statement: Warm. Kept, Links and Raising serve the type's own rule, loops and inner calls.
pub mod Links
pub mod Raising
pub mod Kept
pub mod Warm
