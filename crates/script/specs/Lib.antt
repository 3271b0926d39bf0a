-- `Calls` has which call a letter asks for, and `Running` what a line leaves.
pub mod Calls
pub mod Running
