pub mod Lines
pub mod Text
pub mod Ranges
pub mod Words
pub mod Places
pub mod Faults
pub mod Stages
pub mod Scanning
