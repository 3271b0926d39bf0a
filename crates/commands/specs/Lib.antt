pub mod Commands
pub mod Counted
