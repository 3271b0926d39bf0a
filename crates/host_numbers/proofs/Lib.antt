-- `Fields` has the law that takes field bytes to where they lie in the lent slice.
pub mod Fields
