-- `Finding` has the laws of finding the members of a structure in one walk, `Listing` those of reading the members of an array one after
-- the other, `Bounds` the bounds of what is read.
pub mod Finding
pub mod Listing
pub mod Bounds
