-- `Encoding` has field bytes that are written and the statement that they are read back, and `Rows` a table of field bytes and what they are
-- read as.
pub mod Encoding
pub mod Rows
