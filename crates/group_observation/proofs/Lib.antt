-- `Words` has the memberships as a list of words, `Asks` a node's calls by those of its scenes. `Reach` has what holds of every reached node,
-- whatever its history, that a sound node stays sound, and the claim with memberships as inputs; `Enrolled` that scenes have memberships where
-- nothing else filled the node. `Forward` and `Backward` have the two directions of the claim, and `Theorem` the claim. `Readings` and `Histories`
-- have counterexamples to nearby readings and to other histories, and `Promises` what a removal leaves, which numbers there are, what a refusal
-- leaves, and 6.
pub mod Words
pub mod Asks
pub mod Reach
pub mod Enrolled
pub mod Forward
pub mod Backward
pub mod Theorem
pub mod Readings
pub mod Histories
pub mod Promises
