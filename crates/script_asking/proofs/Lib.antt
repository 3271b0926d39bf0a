-- `AskedLaws` has that a read that asks leaves the head as it was, and `Fits` that the tails of answers fit.
pub mod AskedLaws
pub mod Fits
