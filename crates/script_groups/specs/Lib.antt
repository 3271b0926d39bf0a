-- `Memberships` has what the letters of memberships ask, and `Calls` which call a line makes that needs them.
pub mod Memberships
pub mod Calls
