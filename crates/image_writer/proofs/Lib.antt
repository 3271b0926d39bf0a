-- `Firsts` has the laws of the bytes of the first entries and of the first records, one more at a time, and `Lengths` those of how many
-- bytes a part of an image takes, and at most takes.
pub mod Firsts
pub mod Lengths
