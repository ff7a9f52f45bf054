pub mod Decimals
pub mod Bytes
pub mod Puts
