-- The tests by which an entry and a record are looked up in the views of a table, the entry that a write leaves, and the records that
-- remembering leaves.
use Prim.Native.Nat.{ℕ}
use mathlib.Core.Bool.{Bool, cond, ◌||◌}
use mathlib.Core.List.{List}
use mathlib.Core.Option.{Option, none, some}
use lib.Dec.{ltb}
use Rattle.words.specs.Words.{word_of, within, owns, valid_record}
use Rattle.std.specs.Prelude.{Option as Maybe, Some, None}
use Rattle.words.specs.declared.KeyRange.{KeyRange}
use Rattle.words.specs.declared.SceneKey.{SceneKey}
use Rattle.slots.specs.Slots.{SceneEntry}
use Rattle.state.specs.Table.{Table, records_in}
use Rattle.observation.proofs.Lists.{has, put}

-- ---- tests

-- an entry of a range
abbrev pub holds : KeyRange → SceneEntry → Bool
holds r x = within r x.key

-- a record of a fabric, on an endpoint
abbrev pub owned_by : ℕ → ℕ → ℕ → Bool
owned_by fabric endpoint word = owns word fabric endpoint

-- ---- positions

-- what stands where something was found
abbrev pub found_at : {A : Type 0} → (ℕ → A) → Maybe ℕ → Option A
found_at g (Some p) = some (g p)
found_at g None = none

-- ---- writes

abbrev pub entry_of : SceneKey → ℕ → List ℕ → SceneEntry
entry_of key time ext = record { key = word_of key; time = time; fields = ext }

-- the records with one that is now its fabric's: in the place of the fabric's, else behind the others, else dropped
abbrev pub with_record : SceneKey → Table → List ℕ
with_record key t =
    cond (has (owned_by key.fabric key.endpoint) (records_in t) || ltb t.state.recorded t.state.size)
    (put (owned_by key.fabric key.endpoint) (valid_record key) (records_in t))
    (records_in t)
