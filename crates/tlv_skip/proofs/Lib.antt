pub mod Taking
pub mod Skips
