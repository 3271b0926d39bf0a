-- `Laws` has the laws of what saving answers, and `Bound` that a buffer of the length that a size tells is long enough.
pub mod Laws
pub mod Bound
