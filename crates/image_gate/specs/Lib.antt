-- `Verdict` has what refuses an image, and `Deciding` how the code finds out.
pub mod Verdict
pub mod Deciding
