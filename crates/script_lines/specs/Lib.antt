-- `Lines` has what a line says and what it holds once it was read, and `Values` what its words name.
pub mod Lines
pub mod Values
