-- `Capacity` has what the cap of the remaining capacity changes and what the share mode, `Laws` the laws of the definitions that callers cite,
-- `Guard` those of a call's refusal, and `Changes` the laws that take what an operation left to what a definition says of the table.
pub mod Capacity
pub mod Laws
pub mod Guard
pub mod Changes
