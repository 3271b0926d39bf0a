-- `ImageLaws` takes what a save of the table ensures to the definition of its letter, and `Fits` says that tails fit.
pub mod ImageLaws
pub mod Fits
