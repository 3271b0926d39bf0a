-- `PairLaws` has the laws of reading a pair and an array of pairs, `SetLaws` those of reading a set, `ReaderLaws` those of the sets in
-- field bytes, and `Steps` what a step of the reader says of the bytes. `Yielding` has the theorem that the reader yields these sets.
pub mod PairLaws
pub mod SetLaws
pub mod ReaderLaws
pub mod Steps
pub mod Yielding
