-- `Rows` has what some lines say, `Letters` the laws of a search for a letter, `LineLaws` those of reading a line, and `Spelling` how many
-- bytes a line spells.
pub mod Rows
pub mod Letters
pub mod LineLaws
pub mod Spelling
