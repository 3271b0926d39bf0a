-- `Done` has what a call answers, with the table that it leaves, `Answers` the text of an answer, and `Dump` that of a table.
pub mod Done
pub mod Answers
pub mod Dump
