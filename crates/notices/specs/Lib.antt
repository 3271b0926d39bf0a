pub mod Notice
pub mod Pass
pub mod Packed
