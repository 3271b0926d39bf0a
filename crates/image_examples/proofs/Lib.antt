-- `Rows` has the theorem that every row of the table holds.
pub mod Rows
