-- `GroupLaws` has the laws that take the steps of a letter to its definition, and `Fits` that the tails of answers fit.
pub mod GroupLaws
pub mod Fits
