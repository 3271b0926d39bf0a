-- Document 02, Q-1 and Q-3: images that are loaded and saved, as one table of rows. Images are written out as bytes, in parts that have a name.
use Rattle.std.specs.Prelude.{ℕ, ◌+◌, ◌-◌, ◌^◌, ◌≡◌, Bool, true, false, ◌&&◌, List, [], ◌∷◌, ◌++◌, map, eqb, replicate, Option, Some, None}
use Rattle.words.specs.Constants.{success, unsound, buffer_too_short, bad_image, clashing_image, global_scene, reserved_scene}
use Rattle.words.specs.Words.{key_of}
use Rattle.slots.specs.Slots.{SceneEntry}
use Rattle.state.specs.Table.{Table, table_of, empty_table, entries_in, records_in}
use Rattle.state.specs.Answer.{Result, refused}
use Rattle.image_writer.specs.Image.{entry_of, image_bytes}
use Rattle.image_save.specs.Saving.{Saved, image_of, save_image}
use Rattle.image_reader.specs.Image.{Image, image_in}
use Rattle.image_load.specs.Loading.{load_image}

-- ---- what a row says

pub data Outcome : Type 0 where
  -- a load that is accepted: status, save mark, and the table's entries, records and version
  Accepted : (status : ℕ) (save : Bool) (entries : List SceneEntry) (records : List ℕ) (version : ℕ) → Outcome
  -- a load that is refused: the answer, with all of the table
  Refused : (answer : Result) → Outcome
  -- a save: status, number of bytes, and the buffer
  Written : (status : ℕ) (len : ℕ) (buffer : List ℕ) → Outcome
  -- a load, and the image of the table that it leaves: whether those are the bytes that were loaded, the image, the encoding of what was decoded
  Rewritten : (same : Bool) (image : List ℕ) (encoding : List ℕ) → Outcome

-- what the definitions compute, and what the row says
pub record Row : Type 0 where
  pub computed : Outcome
  pub written : Outcome

-- every row of a group holds, and every row of a table
abbrev pub Hold : List Row → Type 0
Hold rs = map (λ (r : Row). r.computed) rs ≡ map (λ (r : Row). r.written) rs

abbrev pub EveryRow : List (List Row) → Type 0
EveryRow [] = Unit {0}
EveryRow (g ∷ gs) = Hold g × EveryRow gs

-- ---- tables

-- the record word of a key that is valid
abbrev pub valid : ℕ → ℕ
valid key = key + 2 ^ 48

-- the table that is loaded into: N 2, with an entry and a valid record, at a version
abbrev pub table_at : ℕ → Table
table_at version =
    table_of (record { size = 2; entries = 1; recorded = 1; dataver = version; modes = 0 })
    (key_of 2 3 4 9 ∷ 0 ∷ [])
    (5 ∷ 0 ∷ [])
    (1 ∷ 0xCC ∷ replicate 256 0)
    (valid (key_of 2 3 4 9) ∷ 0 ∷ [])

-- not sound: three entries, N 2
abbrev pub unsound_table : Table
unsound_table =
    table_of (record { size = 2; entries = 3; recorded = 0; dataver = 7; modes = 0 }) (replicate 3 0) (replicate 3 0) (replicate 387 0) (replicate 3 0)

-- fabric 1, endpoint 1, group 300, scene 5
abbrev pub scene_five : ℕ
scene_five = key_of 1 1 300 5

-- N 1, with that scene, which is its fabric's current one
abbrev pub one_scene : Table
one_scene =
    table_of (record { size = 1; entries = 1; recorded = 1; dataver = 0; modes = 0 })
    (scene_five ∷ [])
    (70000 ∷ [])
    (2 ∷ 0xAA ∷ 0xBB ∷ replicate 126 0)
    (valid scene_five ∷ [])

-- ---- kinds of rows

abbrev pub loaded : Result → Outcome
loaded r = Accepted r.status r.save (entries_in r.table) (records_in r.table) r.table.state.dataver

-- entries and records of the image, and one step of the version; no save mark
abbrev pub accepts : List ℕ → List SceneEntry → List ℕ → Row
accepts bytes entries records = record { computed = loaded (load_image bytes (table_at 7)); written = Accepted success false entries records 8 }

-- a fault, and the table as it was
abbrev pub refuses_in : Table → ℕ → List ℕ → Row
refuses_in t fault bytes = record { computed = Refused (load_image bytes t); written = Refused (refused t fault) }

abbrev pub refuses : ℕ → List ℕ → Row
refuses fault bytes = refuses_in (table_at 7) fault bytes

abbrev pub saved : Saved → Outcome
saved s = Written s.answer.status s.answer.len s.buffer

abbrev pub saves : Table → List ℕ → ℕ → ℕ → List ℕ → Row
saves t buffer status len after = record { computed = saved (save_image buffer t); written = Written status len after }

-- ---- parts of images, in bytes

-- members 0 to 3: fabric 1, endpoint 1, group 300, and a scene
abbrev pub fabric : List ℕ
fabric = 0x24 ∷ 0x00 ∷ 0x01 ∷ []

abbrev pub endpoint : List ℕ
endpoint = 0x24 ∷ 0x01 ∷ 0x01 ∷ []

abbrev pub group : List ℕ
group = 0x25 ∷ 0x02 ∷ 0x2C ∷ 0x01 ∷ []

abbrev pub scene : ℕ → List ℕ
scene s = 0x24 ∷ 0x03 ∷ s ∷ []

abbrev pub key_five : List ℕ
key_five = fabric ++ endpoint ++ group ++ scene 0x05

-- members 4 and 5 of an entry: time 70,000 and two field bytes
abbrev pub time : List ℕ
time = 0x26 ∷ 0x04 ∷ 0x70 ∷ 0x11 ∷ 0x01 ∷ 0x00 ∷ []

abbrev pub fields : List ℕ
fields = 0x30 ∷ 0x05 ∷ 0x02 ∷ 0xAA ∷ 0xBB ∷ []

-- member 4 of a record: valid, or not
abbrev pub valid_yes : List ℕ
valid_yes = 0x29 ∷ 0x04 ∷ []

abbrev pub valid_no : List ℕ
valid_no = 0x28 ∷ 0x04 ∷ []

abbrev pub structure : List ℕ → List ℕ
structure members = 0x15 ∷ members ++ (0x18 ∷ [])

-- an image that holds these entries and these records
abbrev pub image : List ℕ → List ℕ → List ℕ
image entries records = 0x15 ∷ 0x36 ∷ 0x00 ∷ entries ++ (0x18 ∷ 0x36 ∷ 0x01 ∷ records ++ (0x18 ∷ 0x18 ∷ []))

-- an image of one entry, or of one record, with these members
abbrev pub of_entry : List ℕ → List ℕ
of_entry members = image (structure members) []

abbrev pub of_record : List ℕ → List ℕ
of_record members = image [] (structure members)

-- an entry with a scene id, and the valid record of a fabric on an endpoint
abbrev pub entry_for : ℕ → List ℕ
entry_for s = structure (fabric ++ endpoint ++ group ++ scene s ++ time ++ fields)

abbrev pub record_for : ℕ → ℕ → List ℕ
record_for f e = structure ((0x24 ∷ 0x00 ∷ f ∷ 0x24 ∷ 0x01 ∷ e ∷ []) ++ group ++ scene 0x05 ++ valid_yes)

-- ---- accepted, and not what `to_tlv` writes

-- what most of them hold
abbrev pub five : SceneEntry
five = entry_of scene_five 70000 (0xAA ∷ 0xBB ∷ [])

abbrev pub accepts_five : List ℕ → Row
accepts_five bytes = accepts bytes (five ∷ []) []

-- endpoint 1 in two bytes
abbrev pub wide_endpoint : List ℕ
wide_endpoint = of_entry (fabric ++ (0x25 ∷ 0x01 ∷ 0x01 ∷ 0x00 ∷ []) ++ group ++ scene 0x05 ++ time ++ fields)

-- a structure with a member 0, and in it an array of an empty list and an empty structure
abbrev pub nested_member : List ℕ
nested_member = 0x35 ∷ 0x09 ∷ 0x24 ∷ 0x00 ∷ 0x07 ∷ 0x36 ∷ 0x01 ∷ 0x17 ∷ 0x18 ∷ 0x15 ∷ 0x18 ∷ 0x18 ∷ 0x18 ∷ []

abbrev pub foreign_rows : List Row
foreign_rows =
    -- the members of an entry in another order
    accepts_five (of_entry (fields ++ time ++ scene 0x05 ++ group ++ endpoint ++ fabric))
    -- the members of a record in another order
    ∷ accepts (of_record (valid_no ++ scene 0x05 ++ group ++ endpoint ++ fabric)) [] (scene_five ∷ [])
    -- a number in a wider type than it needs
    ∷ accepts_five wide_endpoint
    -- an extra member with containers in it, whose members do not count
    ∷ accepts_five (of_entry (nested_member ++ key_five ++ time ++ fields))
    -- a second member with the scene's tag: the first counts
    ∷ accepts_five (of_entry (key_five ++ scene 0x06 ++ time ++ fields))
    -- the records' array before the entries'
    ∷ accepts (0x15 ∷ 0x36 ∷ 0x01 ∷ record_for 1 1 ++ (0x18 ∷ 0x36 ∷ 0x00 ∷ entry_for 0x05 ++ (0x18 ∷ 0x18 ∷ []))) (five ∷ []) (valid scene_five ∷ [])
    -- a tag on the outer structure, and one of eight bytes on an entry
    ∷ accepts_five (0x35 ∷ 0x07 ∷ 0x36 ∷ 0x00 ∷ 0xF5 ∷ 0xF1 ∷ 0xFF ∷ 0x00 ∷ 0x00 ∷ 0x01 ∷ 0x00 ∷ 0x00 ∷ 0x00
    ∷ key_five ++ time ++ fields ++ (0x18 ∷ 0x18 ∷ 0x36 ∷ 0x01 ∷ 0x18 ∷ 0x18 ∷ []))
    -- the last end missing
    ∷ accepts_five (0x15 ∷ 0x36 ∷ 0x00 ∷ entry_for 0x05 ++ (0x18 ∷ 0x36 ∷ 0x01 ∷ 0x18 ∷ []))
    -- an unknown type behind both arrays
    ∷ accepts_five (0x15 ∷ 0x36 ∷ 0x00 ∷ entry_for 0x05 ++ (0x18 ∷ 0x36 ∷ 0x01 ∷ 0x18 ∷ 0x19 ∷ []))
    -- bytes behind the image
    ∷ accepts_five (image (entry_for 0x05) [] ++ (0xFF ∷ 0xFF ∷ []))
    -- the length of the field bytes in two bytes
    ∷ accepts_five (of_entry (key_five ++ time ++ (0x31 ∷ 0x05 ∷ 0x02 ∷ 0x00 ∷ 0xAA ∷ 0xBB ∷ [])))
    -- in four bytes
    ∷ accepts_five (of_entry (key_five ++ time ++ (0x32 ∷ 0x05 ∷ 0x02 ∷ 0x00 ∷ 0x00 ∷ 0x00 ∷ 0xAA ∷ 0xBB ∷ [])))
    -- in eight bytes
    ∷ accepts_five (of_entry (key_five ++ time ++ (0x33 ∷ 0x05 ∷ 0x02 ∷ 0x00 ∷ 0x00 ∷ 0x00 ∷ 0x00 ∷ 0x00 ∷ 0x00 ∷ 0x00 ∷ 0xAA ∷ 0xBB ∷ [])))
    ∷ []

-- ---- written anew

abbrev pub same_bytes : List ℕ → List ℕ → Bool
same_bytes [] [] = true
same_bytes [] (y ∷ ys) = false
same_bytes (x ∷ xs) [] = false
same_bytes (x ∷ xs) (y ∷ ys) = eqb x y && same_bytes xs ys

abbrev pub encoded : Option Image → List ℕ
encoded None = []
encoded (Some i) = image_bytes i.entries i.records

abbrev pub rewritten : List ℕ → Outcome
rewritten bytes =
    let anew : List ℕ = image_of (load_image bytes (table_at 7)).table in
    Rewritten (same_bytes bytes anew) anew (encoded (image_in 2 bytes))

-- the table of the wide endpoint has other bytes as its image: the encoding of what was decoded
abbrev pub narrowed : Row
narrowed = record { computed = rewritten wide_endpoint; written = Rewritten false (image (entry_for 0x05) []) (image (entry_for 0x05) []) }

-- ---- accepted at the limits

abbrev pub limit_rows : List Row
limit_rows =
    -- no entries and no records
    accepts (image [] []) [] []
    -- N entries and N records
    ∷ accepts (image (entry_for 0x05 ++ entry_for 0x06) (record_for 1 1 ++ record_for 2 1))
    (five ∷ entry_of (key_of 1 1 300 6) 70000 (0xAA ∷ 0xBB ∷ []) ∷ [])
    (valid scene_five ∷ valid (key_of 2 1 300 5) ∷ [])
    -- 128 field bytes
    ∷ accepts (of_entry (key_five ++ time ++ (0x30 ∷ 0x05 ∷ 0x80 ∷ replicate 128 0xAA))) (entry_of scene_five 70000 (replicate 128 0xAA) ∷ []) []
    -- the largest version steps to 0
    ∷ record { computed = loaded (load_image (image [] []) (table_at (2 ^ 32 - 1))); written = Accepted success false [] [] 0 }
    ∷ []

-- ---- no bytes: a startup

-- no entries, no records, and the version as it was
abbrev pub starts : ℕ → Row
starts version = record { computed = loaded (load_image [] (table_at version)); written = Accepted success false [] [] version }

abbrev pub start_rows : List Row
start_rows = starts 7 ∷ starts (2 ^ 32 - 1) ∷ []

-- ---- 9: the structure and its arrays

abbrev pub outer_rows : List Row
outer_rows =
    -- one byte: a structure that is cut off
    refuses bad_image (0x15 ∷ [])
    -- an array in the place of the structure
    ∷ refuses bad_image (0x16 ∷ 0x36 ∷ 0x00 ∷ 0x18 ∷ 0x36 ∷ 0x01 ∷ 0x18 ∷ 0x18 ∷ [])
    -- no array of entries
    ∷ refuses bad_image (0x15 ∷ 0x36 ∷ 0x01 ∷ 0x18 ∷ 0x18 ∷ [])
    -- no array of records
    ∷ refuses bad_image (0x15 ∷ 0x36 ∷ 0x00 ∷ 0x18 ∷ 0x18 ∷ [])
    -- a list in the place of the array of entries
    ∷ refuses bad_image (0x15 ∷ 0x37 ∷ 0x00 ∷ 0x18 ∷ 0x36 ∷ 0x01 ∷ 0x18 ∷ 0x18 ∷ [])
    -- a list in the place of the array of records
    ∷ refuses bad_image (0x15 ∷ 0x36 ∷ 0x00 ∷ 0x18 ∷ 0x37 ∷ 0x01 ∷ 0x18 ∷ 0x18 ∷ [])
    -- a list in the place of an entry
    ∷ refuses bad_image (image (0x17 ∷ key_five ++ time ++ fields ++ (0x18 ∷ [])) [])
    -- a list in the place of a record
    ∷ refuses bad_image (image [] (0x17 ∷ key_five ++ valid_yes ++ (0x18 ∷ [])))
    -- N + 1 entries
    ∷ refuses bad_image (image (entry_for 0x05 ++ entry_for 0x06 ++ entry_for 0x07) [])
    -- N + 1 records
    ∷ refuses bad_image (image [] (record_for 1 1 ++ record_for 2 1 ++ record_for 3 1))
    ∷ []

-- ---- 9: a member missing

abbrev pub missing_rows : List Row
missing_rows =
    -- the fabric of an entry
    refuses bad_image (of_entry (endpoint ++ group ++ scene 0x05 ++ time ++ fields))
    -- the endpoint
    ∷ refuses bad_image (of_entry (fabric ++ group ++ scene 0x05 ++ time ++ fields))
    -- the group
    ∷ refuses bad_image (of_entry (fabric ++ endpoint ++ scene 0x05 ++ time ++ fields))
    -- the scene
    ∷ refuses bad_image (of_entry (fabric ++ endpoint ++ group ++ time ++ fields))
    -- the time
    ∷ refuses bad_image (of_entry (key_five ++ fields))
    -- the field bytes
    ∷ refuses bad_image (of_entry (key_five ++ time))
    -- the fabric of a record
    ∷ refuses bad_image (of_record (endpoint ++ group ++ scene 0x05 ++ valid_yes))
    -- the endpoint
    ∷ refuses bad_image (of_record (fabric ++ group ++ scene 0x05 ++ valid_yes))
    -- the group
    ∷ refuses bad_image (of_record (fabric ++ endpoint ++ scene 0x05 ++ valid_yes))
    -- the scene
    ∷ refuses bad_image (of_record (fabric ++ endpoint ++ group ++ valid_yes))
    -- whether it is valid
    ∷ refuses bad_image (of_record key_five)
    ∷ []

-- ---- 9: a member that says what it may not

abbrev pub value_rows : List Row
value_rows =
    -- fabric 1 in two bytes
    refuses bad_image (of_entry ((0x25 ∷ 0x00 ∷ 0x01 ∷ 0x00 ∷ []) ++ endpoint ++ group ++ scene 0x05 ++ time ++ fields))
    -- endpoint 1 in four bytes
    ∷ refuses bad_image (of_entry (fabric ++ (0x26 ∷ 0x01 ∷ 0x01 ∷ 0x00 ∷ 0x00 ∷ 0x00 ∷ []) ++ group ++ scene 0x05 ++ time ++ fields))
    -- group 300 in four bytes
    ∷ refuses bad_image (of_entry (fabric ++ endpoint ++ (0x26 ∷ 0x02 ∷ 0x2C ∷ 0x01 ∷ 0x00 ∷ 0x00 ∷ []) ++ scene 0x05 ++ time ++ fields))
    -- scene 5 in two bytes
    ∷ refuses bad_image (of_entry (fabric ++ endpoint ++ group ++ (0x25 ∷ 0x03 ∷ 0x05 ∷ 0x00 ∷ []) ++ time ++ fields))
    -- time 70,000 in eight bytes
    ∷ refuses bad_image (of_entry (key_five ++ (0x27 ∷ 0x04 ∷ 0x70 ∷ 0x11 ∷ 0x01 ∷ 0x00 ∷ 0x00 ∷ 0x00 ∷ 0x00 ∷ 0x00 ∷ []) ++ fields))
    -- a time in a signed type
    ∷ refuses bad_image (of_entry (key_five ++ (0x20 ∷ 0x04 ∷ 0x05 ∷ []) ++ fields))
    -- an entry of fabric 0
    ∷ refuses bad_image (of_entry ((0x24 ∷ 0x00 ∷ 0x00 ∷ []) ++ endpoint ++ group ++ scene 0x05 ++ time ++ fields))
    -- a record of fabric 0
    ∷ refuses bad_image (image [] (record_for 0 1))
    -- text in the place of field bytes
    ∷ refuses bad_image (of_entry (key_five ++ time ++ (0x2C ∷ 0x05 ∷ 0x02 ∷ 0xAA ∷ 0xBB ∷ [])))
    -- 129 field bytes
    ∷ refuses bad_image (of_entry (key_five ++ time ++ (0x30 ∷ 0x05 ∷ 0x81 ∷ replicate 129 0xAA)))
    -- a number in the place of whether a record is valid
    ∷ refuses bad_image (of_record (key_five ++ (0x24 ∷ 0x04 ∷ 0x01 ∷ [])))
    ∷ []

-- ---- 9: bytes that are no elements, behind a whole array of entries

abbrev pub behind_entries : List ℕ → List ℕ
behind_entries rest = 0x15 ∷ 0x36 ∷ 0x00 ∷ entry_for 0x05 ++ (0x18 ∷ rest)

-- the array of records, and the end of the structure
abbrev pub no_records : List ℕ
no_records = 0x36 ∷ 0x01 ∷ 0x18 ∷ 0x18 ∷ []

abbrev pub damaged_rows : List Row
damaged_rows =
    -- a length cut off
    refuses bad_image (behind_entries (0x31 ∷ 0x09 ∷ 0x02 ∷ []))
    -- a string cut off
    ∷ refuses bad_image (behind_entries (0x30 ∷ 0x09 ∷ 0x02 ∷ 0xAA ∷ []))
    -- a length of 2^64 - 1
    ∷ refuses bad_image (behind_entries (0x33 ∷ 0x09 ∷ 0xFF ∷ 0xFF ∷ 0xFF ∷ 0xFF ∷ 0xFF ∷ 0xFF ∷ 0xFF ∷ 0xFF ∷ no_records))
    -- a tag cut off
    ∷ refuses bad_image (behind_entries (0x36 ∷ []))
    -- an unknown type
    ∷ refuses bad_image (behind_entries (0x39 ∷ 0x09 ∷ no_records))
    -- an end with a tag
    ∷ refuses bad_image (behind_entries (0x36 ∷ 0x01 ∷ 0x38 ∷ 0x09 ∷ 0x18 ∷ 0x18 ∷ []))
    -- an array that is not closed
    ∷ refuses bad_image (behind_entries (0x36 ∷ 0x01 ∷ []))
    ∷ []

-- ---- 10, after 9

abbrev pub clash_rows : List Row
clash_rows =
    -- a key twice
    refuses clashing_image (image (entry_for 0x05 ++ entry_for 0x05) [])
    -- two records of one fabric, on two endpoints
    ∷ refuses clashing_image (image [] (record_for 1 1 ++ record_for 1 2))
    -- scene 0 in an entry
    ∷ refuses clashing_image (image (entry_for global_scene) [])
    -- scene 255 in an entry
    ∷ refuses clashing_image (image (entry_for reserved_scene) [])
    -- scene 0 in a record
    ∷ refuses clashing_image (of_record (fabric ++ endpoint ++ group ++ scene global_scene ++ valid_yes))
    -- scene 255 in a record
    ∷ refuses clashing_image (of_record (fabric ++ endpoint ++ group ++ scene reserved_scene ++ valid_no))
    -- scene 0 in an entry, and a record of fabric 0: 9
    ∷ refuses bad_image (image (entry_for global_scene) (record_for 0 1))
    ∷ []

-- ---- 6, before all

abbrev pub unsound_rows : List Row
unsound_rows =
    -- a table that is not sound, and a good image
    refuses_in unsound_table unsound (image (entry_for 0x05) [])
    -- and no bytes
    ∷ refuses_in unsound_table unsound []
    -- and an image that 9 would refuse
    ∷ refuses_in unsound_table unsound (0x15 ∷ [])
    -- and an image that 10 would refuse
    ∷ refuses_in unsound_table unsound (image (entry_for global_scene) [])
    -- such a table saved
    ∷ saves unsound_table (replicate 600 0xEE) unsound 0 (replicate 600 0xEE)
    -- and saved to a buffer that is too short
    ∷ saves unsound_table [] unsound 0 []
    ∷ []

-- ---- saving

-- the image of one scene that is current, byte by byte
abbrev pub one_scene_bytes : List ℕ
one_scene_bytes =
    (0x15 ∷ 0x36 ∷ 0x00 ∷ [])
    ++ (0x15 ∷ 0x24 ∷ 0x00 ∷ 0x01 ∷ 0x24 ∷ 0x01 ∷ 0x01 ∷ 0x25 ∷ 0x02 ∷ 0x2C ∷ 0x01 ∷ 0x24 ∷ 0x03 ∷ 0x05 ∷ [])
    ++ (0x26 ∷ 0x04 ∷ 0x70 ∷ 0x11 ∷ 0x01 ∷ 0x00 ∷ 0x30 ∷ 0x05 ∷ 0x02 ∷ 0xAA ∷ 0xBB ∷ 0x18 ∷ [])
    ++ (0x18 ∷ 0x36 ∷ 0x01 ∷ [])
    ++ (0x15 ∷ 0x24 ∷ 0x00 ∷ 0x01 ∷ 0x24 ∷ 0x01 ∷ 0x01 ∷ 0x25 ∷ 0x02 ∷ 0x2C ∷ 0x01 ∷ 0x24 ∷ 0x03 ∷ 0x05 ∷ 0x29 ∷ 0x04 ∷ 0x18 ∷ [])
    ++ (0x18 ∷ 0x18 ∷ [])

abbrev pub save_rows : List Row
save_rows =
    -- an empty table of N 0
    saves (empty_table 0) (replicate 8 0xEE) success 8 (0x15 ∷ 0x36 ∷ 0x00 ∷ 0x18 ∷ 0x36 ∷ 0x01 ∷ 0x18 ∷ 0x18 ∷ [])
    -- a buffer as long as the image
    ∷ saves one_scene (replicate 51 0xEE) success 51 one_scene_bytes
    -- a byte behind the image stays
    ∷ saves one_scene (replicate 52 0xEE) success 51 (one_scene_bytes ++ (0xEE ∷ []))
    -- one byte too short
    ∷ saves one_scene (replicate 50 0xEE) buffer_too_short 0 (replicate 50 0xEE)
    -- the image loaded
    ∷ accepts one_scene_bytes (five ∷ []) (valid scene_five ∷ [])
    ∷ []

-- ---- the table

abbrev pub rows : List (List Row)
rows =
    foreign_rows
    ∷ (narrowed ∷ [])
    ∷ limit_rows
    ∷ start_rows
    ∷ outer_rows
    ∷ missing_rows
    ∷ value_rows
    ∷ damaged_rows
    ∷ clash_rows
    ∷ unsound_rows
    ∷ save_rows
    ∷ []
