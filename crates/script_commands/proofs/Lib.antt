-- `Fits` has that a command's tail, which is none, fits.
pub mod Fits
