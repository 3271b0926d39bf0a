-- The view of a table as one record, and what each change of a table does to it: the right-hand sides of the views' laws. A change is
-- no call: what a call does is said in `Calls` alone.
use Prim.Native.Nat.{ℕ, ◌+◌, ◌-◌, ◌/◌, ◌%◌, ◌^◌, min}
use mathlib.Core.Bool.{Bool, true, false, cond, ◌||◌}
use mathlib.Core.List.{List, [], ◌∷◌, map}
use mathlib.Core.Option.{Option}
use lib.Dec.{eqb, ltb}
use lib.ListN.{length}
use Rattle.words.specs.Words.{valid_record}
use Rattle.words.specs.declared.SceneKey.{SceneKey}
use Rattle.slots.specs.Slots.{SceneEntry}
use Rattle.records.specs.declared.Scope.{Scope}
use Rattle.records.specs.Records.{hits, cleared}
use Rattle.state.specs.Table.{Table, entries_in, records_in}
use Rattle.observation.specs.Lists.{count, find}
use Rattle.observation.specs.Equivalence.{key_is, mine, of_fabric}
use Rattle.observation.proofs.Lists.{has, put}

pub record View : Type 0 where
  pub size : ℕ
  pub modes : ℕ
  pub dataver : ℕ
  pub entries : List SceneEntry
  pub records : List ℕ

unfoldable pub view_of : Table → View
view_of t = record { size = t.state.size; modes = t.state.modes; dataver = t.state.dataver; entries = entries_in t; records = records_in t }

-- ---- what is read off a view

abbrev pub free_in : View → ℕ
free_in v = v.size - length v.entries

abbrev pub used_in : ℕ → View → ℕ
used_in f v = count (mine f) v.entries

-- what a fabric may still copy, not cut
unfoldable pub room_in : ℕ → View → ℕ
room_in f v = min ((v.size - 1) / 2 - used_in f v) (free_in v)

-- in share mode
abbrev pub share_in : View → Bool
share_in v = eqb (v.modes % 2) 1

-- what a fabric may still add
unfoldable pub places_in : ℕ → View → ℕ
places_in f v = cond (share_in v) (room_in f v) (free_in v)

abbrev pub current_in : ℕ → View → Option ℕ
current_in f v = find (of_fabric f) v.records

abbrev pub record_fits_in : View → Bool
record_fits_in v = ltb (length v.records) v.size

-- a fabric's upsert of a key word succeeds
abbrev pub place_for : ℕ → ℕ → View → Bool
place_for f k v = has (key_is k) v.entries || ltb 0 (places_in f v)

-- ---- changes

abbrev pub stepped : ℕ → ℕ
stepped n = (n + 1) % 2 ^ 32

abbrev pub entries_set : List SceneEntry → View → View
entries_set es v = record { size = v.size; modes = v.modes; dataver = v.dataver; entries = es; records = v.records }

-- an entry over the one with its key, or at the end
abbrev pub written : SceneEntry → View → View
written x v = entries_set (put (key_is x.key) x v.entries) v

unfoldable pub invalidated : Scope → View → View
invalidated scope v = record {
  size = v.size;
  modes = v.modes;
  dataver = cond (has (hits scope) v.records) (stepped v.dataver) v.dataver;
  entries = v.entries;
  records = map (cleared scope) v.records;
}

unfoldable pub remembered : SceneKey → View → View
remembered key v = record {
  size = v.size;
  modes = v.modes;
  dataver = stepped v.dataver;
  entries = v.entries;
  records = cond (has (of_fabric key.fabric) v.records || record_fits_in v) (put (of_fabric key.fabric) (valid_record key) v.records) v.records;
}

-- entries written in turn, as long as each has its key already or the fabric has room; whether all were
unfoldable pub written_all : ℕ → List SceneEntry → View → Bool × View
written_all f [] v = (true, v)
written_all f (x ∷ xs) v = cond (has (key_is x.key) v.entries || ltb 0 (room_in f v)) (written_all f xs (written x v)) (false, v)
