-- `Tests` has the laws of Booleans and of lists of conditions, `Below` those of the positions below a count, `Ranges` those of ranges
-- of key words, and `Refusals` those of refusals.
pub mod Tests
pub mod Below
pub mod Ranges
pub mod Refusals
