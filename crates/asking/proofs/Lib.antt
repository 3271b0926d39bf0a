-- `Laws` has what a call answers that asks the memberships.
pub mod Laws
