-- `Writing` has the laws of text in a buffer, and `Whole` those of text that stands whole.
pub mod Writing
pub mod Whole
