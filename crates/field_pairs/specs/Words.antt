-- The pairs of sets that were read or not, for the contracts of the functions below `list_pairs`.
use Rattle.std.specs.Prelude.{ℕ, Bool, true, false, List, [], Option, Some, None}
use Rattle.field_sets.specs.Reader.{ExtensionFieldSet, pairs_of}

-- the bytes are a list of sets
abbrev pub readable : Option (List ExtensionFieldSet) → Bool
readable None = false
readable (Some ss) = true

-- the words of their pairs
abbrev pub words_in : Option (List ExtensionFieldSet) → List ℕ
words_in None = []
words_in (Some ss) = pairs_of ss
