-- `Entries` has what an image says of an entry and of a record, `Image` what all of it says. `Places` has how the code finds members.
pub mod Entries
pub mod Image
pub mod Places
