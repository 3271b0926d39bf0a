-- `Writing` has how text is put into a buffer, and `Errors` the answer to a line that is not understood.
pub mod Writing
pub mod Errors
