-- `WriteLaws` has the laws that take the steps of a raw write to the definition of its letter, and `Fits` that the tail of an event's
-- answer, which is none, fits.
pub mod WriteLaws
pub mod Fits
