-- What the raw writes of the host leave, by the letters K, e and r: the data version, and an entry or a record behind the last one, as
-- it stands. Letters are in ASCII codes.
use Rattle.std.specs.Prelude.{ℕ, ◌+◌, ◌*◌, Bool, cond, List, [], ◌∷◌, eqb, ltb, leb, length, set}
use Rattle.words.specs.Constants.{success, unsound, max_fields, max_scenes, stride}
use Rattle.words.specs.Conditions.{all_of}
use Rattle.words.specs.Words.{word_of, valid_record}
use Rattle.words.specs.declared.SceneKey.{SceneKey}
use Rattle.state.specs.declared.ScenesState.{ScenesState}
use Rattle.state.specs.Table.{Table, with_entries, with_current, Current, current_of, with_record_count}
use Rattle.state.specs.Change.{append}
use Rattle.script_lines.specs.Values.{byte, long, value_at, scene_key}
use Rattle.script_answers.specs.declared.Tail.TheVariants.{Nothing}
use Rattle.script_answers.specs.Done.{Done, read_of}

-- a raw write of the host answers 0 or 6
abbrev pub raw : ℕ → Table → Done
raw status t = read_of status Nothing t

abbrev pub with_version : ℕ → Table → Table
with_version n t = record {
  state = record { size = t.state.size; entries = t.state.entries; recorded = t.state.recorded; dataver = n; modes = t.state.modes };
  slots = t.slots;
  records = t.records;
}

-- K
unfoldable pub set_version : List ℕ → Table → Done
set_version values t = raw success (with_version (long (value_at values 0)) t)

-- whether one more entry has a fabric, and fits its fields, the table and slices of these lengths
unfoldable pub entry_fits : ScenesState → ℕ → ℕ → ℕ → ℕ → ℕ → Bool
entry_fits s fabric ext keys times fields =
    all_of (ltb 0 fabric
    ∷ leb ext max_fields
    ∷ ltb s.entries s.size
    ∷ ltb s.entries max_scenes
    ∷ ltb s.entries keys
    ∷ ltb s.entries times
    ∷ leb (s.entries * stride + stride) fields
    ∷ [])

-- e: an entry behind the last one, or 6
unfoldable pub push_entry : List ℕ → List ℕ → Table → Done
push_entry values ext t =
    cond
    (entry_fits t.state (byte (value_at values 0)) (length ext) (length t.slots.keys) (length t.slots.times) (length t.slots.fields))
    (raw success (with_entries (append (scene_key values) (long (value_at values 4)) ext) t))
    (raw unsound t)

-- a record that is valid or not
abbrev pub record_word : SceneKey → ℕ → ℕ
record_word key valid = cond (eqb valid 0) (word_of key) (valid_record key)

-- whether one more record has a fabric, and fits the table and a slice of this length
unfoldable pub record_fits : ScenesState → ℕ → ℕ → Bool
record_fits s fabric records = all_of (ltb 0 fabric ∷ ltb s.recorded s.size ∷ ltb s.recorded records ∷ [])

abbrev pub append_record : ℕ → Current → Current
append_record word c = current_of (with_record_count (c.state.recorded + 1) c.state) (set c.records c.state.recorded word)

-- r: a record behind the last one, or 6
unfoldable pub push_record : List ℕ → Table → Done
push_record values t =
    cond (record_fits t.state (byte (value_at values 0)) (length t.records))
    (raw success (with_current (append_record (record_word (scene_key values) (value_at values 4))) t))
    (raw unsound t)

-- K, e, and r for any other
unfoldable pub host_write : ℕ → List ℕ → (ℕ → List ℕ) → Table → Done
host_write letter values bytes t =
    cond (eqb letter 75) (set_version values t)
    (cond (eqb letter 101) (push_entry values (bytes 5) t)
    (push_record values t))
