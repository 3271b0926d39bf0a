-- `Rest` has the laws of what the reader still yields from a cursor, and `Laws` those of the listing.
pub mod Rest
pub mod Laws
