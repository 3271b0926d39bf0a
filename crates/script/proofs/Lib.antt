-- `RunLaws` has the laws of a line that is run, and `Lengths` how long its answer is.
pub mod RunLaws
pub mod Lengths
