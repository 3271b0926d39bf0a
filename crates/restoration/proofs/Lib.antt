-- `Trip` has that an entry and a record that are written are read back, `Arrays` that an array is, `Members` that entries and records are
-- members of arrays, and `Whole` that an image is. `Theorem` has the theorems, and `Readings` what refutes
-- a nearby reading.
pub mod Trip
pub mod Arrays
pub mod Members
pub mod Whole
pub mod Theorem
pub mod Readings
