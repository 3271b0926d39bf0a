-- `Trip` has the theorems that what is written is read back, and `Rows` that every row of the table holds.
pub mod Trip
pub mod Rows
