-- `Pairs` has a pair and an array of them, `Sets` an extension field set, and `Reader` the sets in field bytes, what the reader yields
-- of them step by step, and the number of pairs.
pub mod Pairs
pub mod Sets
pub mod Reader
