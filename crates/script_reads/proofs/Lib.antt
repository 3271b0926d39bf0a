-- `ReadLaws` has the laws that take what a read of the table ensures to the definition of its letter, and `Fits` that the tail of its
-- answer fits.
pub mod ReadLaws
pub mod Fits
