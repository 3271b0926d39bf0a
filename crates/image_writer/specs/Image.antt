-- The bytes that `to_tlv` of ScenesStateInner writes: document 02, Q-1. Numbers and lengths in their smallest width, under context tags.
use Rattle.std.specs.Prelude.{ℕ, ◌+◌, ◌*◌}
use mathlib.Core.List.{List, [], ◌∷◌, ◌++◌, flat_map}
use Rattle.words.specs.Words.{fabric_of, endpoint_of, group_of, scene_of, key_of_record, is_valid}
use Rattle.slots.specs.Slots.{SceneEntry}
use Rattle.tlv.specs.Types.{struct_type, array_type, end_type}
use Rattle.tlv.specs.Encoding.{context, number_bytes, octets_bytes, bool_bytes, number_size, octets_size}

-- members 0 to 3: fabric, endpoint, group and scene
abbrev pub key_bytes : ℕ → List ℕ
key_bytes key = number_bytes 0 (fabric_of key) ++ (number_bytes 1 (endpoint_of key) ++ (number_bytes 2 (group_of key) ++ number_bytes 3 (scene_of key)))

-- an entry of its parts
abbrev pub entry_of : ℕ → ℕ → List ℕ → SceneEntry
entry_of key time fields = record { key = key; time = time; fields = fields }

-- an entry: time under tag 4, field bytes under tag 5
abbrev pub entry_bytes : SceneEntry → List ℕ
entry_bytes e = (struct_type ∷ []) ++ (key_bytes e.key ++ (number_bytes 4 e.time ++ (octets_bytes 5 e.fields ++ (end_type ∷ []))))

-- a record: whether it is valid under tag 4
abbrev pub record_bytes : ℕ → List ℕ
record_bytes word = (struct_type ∷ []) ++ (key_bytes (key_of_record word) ++ (bool_bytes 4 (is_valid word) ++ (end_type ∷ [])))

abbrev pub array_bytes : ℕ → List ℕ → List ℕ
array_bytes tag held = context tag array_type ++ (held ++ (end_type ∷ []))

-- the entries in an array under tag 0, the records in one under tag 1
unfoldable pub image_bytes : List SceneEntry → List ℕ → List ℕ
image_bytes entries records =
    (struct_type ∷ []) ++ (array_bytes 0 (flat_map entry_bytes entries) ++ (array_bytes 1 (flat_map record_bytes records) ++ (end_type ∷ [])))

-- ---- how many bytes they take

abbrev pub key_length : ℕ → ℕ
key_length key = number_size (fabric_of key) + number_size (endpoint_of key) + number_size (group_of key) + number_size (scene_of key)

-- an entry with n field bytes
abbrev pub entry_length : ℕ → ℕ → ℕ → ℕ
entry_length key time n = 2 + key_length key + number_size time + octets_size n

abbrev pub record_length : ℕ → ℕ
record_length word = 4 + key_length (key_of_record word)

-- the most that an entry and a record take together, and what the containers around them take
abbrev pub scene_length_max : ℕ
scene_length_max = 171

abbrev pub frame_length : ℕ
frame_length = 8

-- no image of a table of N places has more bytes than this
abbrev pub image_length_max : ℕ → ℕ
image_length_max size = scene_length_max * size + frame_length
