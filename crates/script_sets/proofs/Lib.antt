-- `Rows` has the texts of some sets, `Showing` what is still to be written from a cursor on, and `Lengths` how long the line is at most.
pub mod Rows
pub mod Showing
pub mod Lengths
