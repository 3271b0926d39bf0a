-- `Reading` has the laws of words and of what they say, and `Gathering` that of gathered lines.
pub mod Reading
pub mod Gathering
