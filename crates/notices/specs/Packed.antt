-- Record structs as record words, and the claim that the notice on structs has the outcome of the notice on words: document 01,
-- "Forms that change first".
use Rattle.std.specs.Prelude.{ℕ, ◌*◌, ◌^◌, ◌<◌, ◌≡◌, Bool, true, false, cond, List, [], ◌∷◌, ◌++◌, map, leb, length, take, drop}
use Rattle.words.specs.Constants.{stride}
use Rattle.words.specs.Conditions.{all_of}
use Rattle.words.specs.Words.{word_of, fabric_of, endpoint_of, group_of, scene_of, key_of_record, is_valid, valid_record}
use Rattle.words.specs.declared.SceneKey.{SceneKey}
use Rattle.slots.specs.Slots.{Slots, keys_sound, lengths_sound}
use Rattle.state.specs.Table.{Table}
use Rattle.state.specs.Sound.{sound}
use Rattle.state.specs.Answer.{Result, result_of}
use Rattle.lifecycle.specs.Lifecycle.{scenable_attribute_changed}
use Rattle.notices.specs.declared.CurrentScene.{CurrentScene}
use Rattle.notices.specs.Notice.{record_at, head_sound, Answer, notice_records}

-- ---- a struct and its word

abbrev pub key_in : CurrentScene → SceneKey
key_in c = record { fabric = c.fab_idx; endpoint = c.endpoint_id; group = c.group_id; scene = c.scene_id }

-- the record word of a struct
abbrev pub pack : CurrentScene → ℕ
pack c = cond c.valid (valid_record (key_in c)) (word_of (key_in c))

-- the struct of a record word
abbrev pub unpack : ℕ → CurrentScene
unpack w = record {
  fab_idx = fabric_of (key_of_record w);
  endpoint_id = endpoint_of (key_of_record w);
  group_id = group_of (key_of_record w);
  scene_id = scene_of (key_of_record w);
  valid = is_valid w;
}

-- the numbers of a struct are of their types
pub record Typed (c : CurrentScene) : Type 0 where
  pub fabric : c.fab_idx < 2 ^ 8
  pub endpoint : c.endpoint_id < 2 ^ 16
  pub group : c.group_id < 2 ^ 16
  pub scene : c.scene_id < 2 ^ 8

-- ---- the claim

-- what of a sound table a call cannot see that is lent the records alone: the entries' slices are long enough and hold what is sound
unfoldable pub entries_sound : Table → Bool
entries_sound t =
    all_of (leb t.state.size (length t.slots.keys)
    ∷ leb t.state.size (length t.slots.times)
    ∷ leb (t.state.size * stride) (length t.slots.fields)
    ∷ keys_sound t.slots.keys t.state.entries
    ∷ lengths_sound t.slots.fields t.state.entries
    ∷ [])

-- a table lends a word for each lent struct; below the count they are the structs' words, and past it they are `past`
pub record Lends (t : Table) (rs : List CurrentScene) (past : List ℕ) : Type 0 where
  pub typed : (i : ℕ) → i < length rs → Typed (record_at rs i)
  pub long : length t.records ≡ length rs
  pub words : t.records ≡ map pack (take t.state.recorded rs) ++ past

-- what the call on structs answers, as a result on words
abbrev pub packed : Slots → List ℕ → Answer → Result
packed slots past a =
    result_of a.outcome.status a.outcome.save
    (record { state = a.outcome.state; slots = slots; records = map pack (take a.outcome.state.recorded a.records) ++ past })

-- status, save mark, head and record words are those of the notice on the words, where the entries are sound
abbrev pub SameOutcome : Type 0
SameOutcome = (endpoint : ℕ) (t : Table) (rs : List CurrentScene) (past : List ℕ) → entries_sound t ≡ true → Lends t rs past
    → packed t.slots past (notice_records endpoint t.state rs) ≡ scenable_attribute_changed endpoint t

-- where the head or the number of lent records is not sound, also with entries that are not: both refuse
abbrev pub SameRefusal : Type 0
SameRefusal = (endpoint : ℕ) (t : Table) (rs : List CurrentScene) (past : List ℕ) → Lends t rs past → head_sound t.state (length rs) ≡ false
    → packed t.slots past (notice_records endpoint t.state rs) ≡ scenable_attribute_changed endpoint t

-- every sound table is one of these: its structs are its words unpacked
abbrev pub Unpacks : Type 0
Unpacks = (t : Table) → sound t ≡ true → (entries_sound t ≡ true) × Lends t (map unpack t.records) (drop t.state.recorded t.records)
