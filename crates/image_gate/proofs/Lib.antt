-- `Scanning` has the laws of a scan of an array, `Gating` those of what refuses an image and of what one that passed has.
pub mod Scanning
pub mod Gating
