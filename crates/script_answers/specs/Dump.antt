-- The lines of a table as it stands: what is put into the buffer, piece by piece. Words are in ASCII codes.
use Rattle.std.specs.Prelude.{ℕ, min, cond, List, [], ◌∷◌, ◌++◌, ltb, length, get_or}
use Rattle.words.specs.Words.{fabric_of, endpoint_of, group_of, scene_of, key_of_record, is_valid}
use Rattle.slots.specs.Slots.{fields_at}
use Rattle.state.specs.declared.ScenesState.{ScenesState}
use Rattle.state.specs.Table.{Table}
use Rattle.state.specs.Sound.{sound}
use Rattle.reads.specs.Reads.{field_bytes}
use Rattle.text_output.specs.Writing.{Sheet, writes, writes_below, newline, number, spaced, flag_text, bytes_text}

-- the parts of a key word
abbrev pub key_texts : ℕ → List (List ℕ)
key_texts word = number (fabric_of word) ∷ number (endpoint_of word) ∷ number (group_of word) ∷ number (scene_of word) ∷ []

-- ` e`, key, time and fields
abbrev pub entry_texts : ℕ → ℕ → List ℕ → List (List ℕ)
entry_texts word time fields = (32 ∷ 101 ∷ []) ∷ key_texts word ++ (number time ∷ spaced (bytes_text fields) ∷ newline ∷ [])

abbrev pub entry_line : Table → ℕ → List (List ℕ)
entry_line t i = entry_texts (get_or t.slots.keys i 0) (get_or t.slots.times i 0) (field_bytes i t)

-- ` r`, key and valid mark
abbrev pub record_line : ℕ → List (List ℕ)
record_line word = (32 ∷ 114 ∷ []) ∷ key_texts (key_of_record word) ++ (spaced (flag_text (is_valid word)) ∷ newline ∷ [])

-- `D`, entries, records and version
abbrev pub counts_line : ScenesState → List (List ℕ)
counts_line state = (68 ∷ []) ∷ number state.entries ∷ number state.recorded ∷ number state.dataver ∷ newline ∷ []

-- the counts, then a line for each entry and for each record that the lent slices have: in a sound table, for all of them
unfoldable pub table_lines : Table → Sheet → Sheet
table_lines t s =
    writes_below (λ i. record_line (get_or t.records i 0)) (min t.state.recorded (length t.records))
    (writes_below (entry_line t) (min t.state.entries (length t.slots.keys)) (writes (counts_line t.state) s))

-- ` m`, fabric, endpoint and group
abbrev pub group_line : ℕ → List (List ℕ)
group_line word = (32 ∷ 109 ∷ []) ∷ number (fabric_of word) ∷ number (endpoint_of word) ∷ number (group_of word) ∷ newline ∷ []

-- a line for each of so many memberships that the lent slice has: where they are sound, for all of them
unfoldable pub group_lines : ℕ → List ℕ → Sheet → Sheet
group_lines held words s = writes_below (λ i. group_line (get_or words i 0)) (min held (length words)) s

-- ---- the line of an entry, by a count and the slices alone

-- how many entries have fields to show: all those of a sound table, and none of another
abbrev pub stored_in : Table → ℕ
stored_in t = cond (sound t) t.state.entries 0

-- none from that count on
abbrev pub shown_bytes : ℕ → List ℕ → ℕ → List ℕ
shown_bytes stored fields i = cond (ltb i stored) (fields_at fields i) []

-- `DumpLaws` proves that this is `entry_line`
abbrev pub entry_shown : ℕ → List ℕ → List ℕ → List ℕ → ℕ → List (List ℕ)
entry_shown stored keys times fields i = entry_texts (get_or keys i 0) (get_or times i 0) (shown_bytes stored fields i)
