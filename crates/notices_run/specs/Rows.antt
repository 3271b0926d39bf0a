-- The table that the rows' words are run on.
use Rattle.std.specs.Prelude.{ℕ, ◌^◌, List, replicate}
use Rattle.state.specs.declared.ScenesState.{ScenesState}
use Rattle.state.specs.Table.{Table, table_of}

-- a head and record words, with eight sound entries
abbrev pub table_for : ScenesState → List ℕ → Table
table_for s words = table_of s (replicate 8 (2 ^ 40)) (replicate 8 0) (replicate 1032 0) words
