-- The head and the lent memory of a scene table, whole, and what of it members can see.
-- Document 01, "Forms that change first".
use Rattle.std.specs.Prelude.{◌≡◌, ℕ, ◌+◌, ◌*◌, ◌%◌, ◌^◌, ◌≤◌, Bool, true, cond, List, map, length, take, replicate}
use Rattle.words.specs.Constants.{stride}
use Rattle.words.specs.Below.{positions}
use Rattle.slots.specs.Slots.{Slots, slots_of, SceneEntry, entry_at, lengths_sound}
use Rattle.state.specs.declared.ScenesState.{ScenesState}

pub record Table : Type 0 where
  pub state : ScenesState
  pub slots : Slots
  pub records : List ℕ

abbrev pub table_of : ScenesState → List ℕ → List ℕ → List ℕ → List ℕ → Table
table_of s k t f r = record { state = s; slots = slots_of k t f; records = r }

-- the head with the entries' slices, and the head with the record words: what an operation that leaves the rest alone is lent
pub record Entries : Type 0 where
  pub state : ScenesState
  pub slots : Slots

abbrev pub entries_of : ScenesState → List ℕ → List ℕ → List ℕ → Entries
entries_of s k t f = record { state = s; slots = slots_of k t f }

pub record Current : Type 0 where
  pub state : ScenesState
  pub records : List ℕ

abbrev pub current_of : ScenesState → List ℕ → Current
current_of s r = record { state = s; records = r }

abbrev pub with_entries : (Entries → Entries) → Table → Table
with_entries f t =
    let e : Entries = f (record { state = t.state; slots = t.slots }) in
    record { state = e.state; slots = e.slots; records = t.records }

abbrev pub with_current : (Current → Current) → Table → Table
with_current f t =
    let c : Current = f (record { state = t.state; records = t.records }) in
    record { state = c.state; slots = t.slots; records = c.records }

-- the entries in order, with key word, time and field bytes up to the length; and the record words
unfoldable pub entries_in : Table → List SceneEntry
entries_in t = map (entry_at t.slots) (positions t.state.entries)

unfoldable pub records_in : Table → List ℕ
records_in t = take t.state.recorded t.records

-- ---- the head

-- a new head: no entries, no records, data version 0, and the modes that the table is to have for good
abbrev pub new_state_with : ℕ → ℕ → ScenesState
new_state_with size modes = record { size = size; entries = 0; recorded = 0; dataver = 0; modes = modes }

-- without modes
abbrev pub new_state : ℕ → ScenesState
new_state size = new_state_with size 0

-- an empty table of n places, with zeros in its memory
abbrev pub empty_table_with : ℕ → ℕ → Table
empty_table_with n modes = table_of (new_state_with n modes) (replicate n 0) (replicate n 0) (replicate (n * stride) 0) (replicate n 0)

abbrev pub empty_table : ℕ → Table
empty_table n = empty_table_with n 0

abbrev pub with_entry_count : ℕ → ScenesState → ScenesState
with_entry_count n s = record { size = s.size; entries = n; recorded = s.recorded; dataver = s.dataver; modes = s.modes }

abbrev pub with_record_count : ℕ → ScenesState → ScenesState
with_record_count n s = record { size = s.size; entries = s.entries; recorded = n; dataver = s.dataver; modes = s.modes }

-- one step of the data version, which wraps from 4,294,967,295 to 0, if the test holds
abbrev pub bump_if : Bool → ScenesState → ScenesState
bump_if b s = record {
  size = s.size;
  entries = s.entries;
  recorded = s.recorded;
  dataver = cond b ((s.dataver + 1) % 2 ^ 32) s.dataver;
  modes = s.modes;
}

-- ---- what a table must have for an operation to be in bounds: the counts are within the size, the size within the lent memory

pub record Room (t : Table) : Type 0 where
  pub entries : t.state.entries ≤ t.state.size
  pub recorded : t.state.recorded ≤ t.state.size
  pub keys : t.state.size ≤ length t.slots.keys
  pub times : t.state.size ≤ length t.slots.times
  pub fields : t.state.size * stride ≤ length t.slots.fields
  pub records : t.state.size ≤ length t.records

-- the same for the entries alone, whose lengths a copy reads
pub record EntryRoom (e : Entries) : Type 0 where
  pub entries : e.state.entries ≤ e.state.size
  pub keys : e.state.size ≤ length e.slots.keys
  pub times : e.state.size ≤ length e.slots.times
  pub fields : e.state.size * stride ≤ length e.slots.fields
  pub lengths : lengths_sound e.slots.fields e.state.entries ≡ true

pub record CopyRoom (t : Table) : Type 0 where
  pub entries : EntryRoom (record { state = t.state; slots = t.slots })
  pub recorded : t.state.recorded ≤ length t.records
