pub mod Certifies
pub mod Reasons
pub mod Verdicts
pub mod Held
pub mod Judged
pub mod Streams
pub mod Intake
pub mod Own
