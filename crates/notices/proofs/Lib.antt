-- `Runs` leads the turns of a pass to the call's answer, `Numbers` has the numbers it answers, and `Packed` proves that the notice on
-- structs has the outcome of the notice on words.
pub mod Runs
pub mod Numbers
pub mod Packed
