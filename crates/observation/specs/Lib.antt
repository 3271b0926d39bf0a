pub mod Lists
pub mod Calls
pub mod Equivalence
pub mod Numbers
pub mod Refusals
pub mod FieldBytes
pub mod Share
pub mod Owned
