-- `Laws` has the theorems of `Adding`, and the laws that the proofs of the code rest on.
pub mod Laws
