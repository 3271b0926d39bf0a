-- `DoneLaws` has the laws of what a call answers, `DumpLaws` those of a table's lines, and `AnswerLengths` how long the lines of answers
-- are.
pub mod DoneLaws
pub mod DumpLaws
pub mod AnswerLengths
