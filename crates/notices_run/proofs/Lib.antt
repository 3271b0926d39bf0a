-- `Agreement` proves that both passes agree on every row, and `FourWords` has the words of four records, one by one.
pub mod Agreement
pub mod FourWords
