-- `Placing` has the laws of writing what was read, `Loads` those of a load as a whole. `Restoring` has what it leaves of entries and records,
-- `Decoding` what is known of an image that was read, and `Computing` what computes on one that is written out.
pub mod Placing
pub mod Loads
pub mod Restoring
pub mod Decoding
pub mod Computing
