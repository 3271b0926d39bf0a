-- `Laws` has the laws of the first refusal, and `Passed` what a request that is let through has.
pub mod Laws
pub mod Passed
