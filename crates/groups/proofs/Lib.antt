-- `Laws` has what sound memberships have, and the laws that the proofs of the code rest on.
pub mod Laws
