-- `Held` has that the answer to a line stands whole.
pub mod Held
