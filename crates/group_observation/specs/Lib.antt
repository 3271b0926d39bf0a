-- `Nodes` has the calls on scenes and memberships, `Equivalence` the claim about them, `Promises` what they promise besides.
pub mod Nodes
pub mod Equivalence
pub mod Promises
