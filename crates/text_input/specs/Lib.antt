-- `Reading` has what the words of a line say, and `Gathering` how lines are gathered out of chunks of input.
pub mod Reading
pub mod Gathering
