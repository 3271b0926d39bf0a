-- What an image keeps of a table, as theorems state it: document 02, Q-1, "Loading the image of a table of this size that 10 below would
-- not refuse restores its entries and records, and writing a loaded image writes the Rust's bytes for it." `RewritesNone` is of Q-3.
use Rattle.std.specs.Prelude.{ℕ, ◌+◌, ◌%◌, ◌^◌, ◌≤◌, ◌<◌, ◌≡◌, true, false, List, [], length, take, get_or, Some}
use Rattle.words.specs.Constants.{success}
use Rattle.state.specs.Table.{Table, entries_in, records_in}
use Rattle.state.specs.Sound.{sound}
use Rattle.state.specs.Answer.{Result}
use Rattle.image_reader.specs.Image.{Image, image_in}
use Rattle.image_writer.specs.Image.{image_bytes, image_length_max}
use Rattle.image_save.specs.Saving.{image_of, save_image, TimesFit}
use Rattle.image_gate.specs.Verdict.{clashes}
use Rattle.image_load.specs.Loading.{load_image}

-- what a table would be saved as
abbrev pub contents : Table → Image
contents t = record { entries = entries_in t; records = records_in t }

-- a sound table, with times of their width, that 10 would not refuse
pub record Savable (t : Table) : Type 0 where
  pub intact : sound t ≡ true
  pub times : TimesFit t
  pub unclashed : clashes (contents t) ≡ false

-- a load into u that leaves the entries and the records of t, in order, and steps the version of u once, which may wrap
pub record Restored (t u : Table) (r : Result) : Type 0 where
  pub status : r.status ≡ success
  pub save : r.save ≡ false
  pub entries : entries_in r.table ≡ entries_in t
  pub records : records_in r.table ≡ records_in t
  pub version : r.table.state.dataver ≡ (u.state.dataver + 1) % 2 ^ 32
  pub size : r.table.state.size ≡ u.state.size

-- the image of a table, loaded into any sound table of its size
abbrev pub Restores : Type 0
Restores = (t u : Table) → Savable t → sound u ≡ true → t.state.size ≡ u.state.size → Restored t u (load_image (image_of t) u)

-- the same of what a save left in the front of a buffer that is long enough for any table of this size
abbrev pub SavedRestores : Type 0
SavedRestores =
    (t u : Table) (buffer : List ℕ) → Savable t → sound u ≡ true → t.state.size ≡ u.state.size → image_length_max t.state.size ≤ length buffer
    → Restored t u (load_image (take (save_image buffer t).answer.len (save_image buffer t).buffer) u)

-- after a load of any bytes that are accepted, the table's image is the encoding of what they were read as
abbrev pub Rewrites : Type 0
Rewrites =
    (bytes : List ℕ) (t : Table) (i : Image) → ((k : ℕ) → get_or bytes k 0 < 2 ^ 8) → image_in t.state.size bytes ≡ Some i
    → (load_image bytes t).status ≡ success → image_of (load_image bytes t).table ≡ image_bytes i.entries i.records

-- after a load of no bytes, the image of a table without entries and records
abbrev pub RewritesNone : Type 0
RewritesNone = (t : Table) → sound t ≡ true → image_of (load_image [] t).table ≡ image_bytes [] []

-- the same as `Restores` of every sound table, which is false: one that holds a key twice is saved, and its image is refused by 10
abbrev pub RestoresAny : Type 0
RestoresAny =
    (t u : Table) → sound t ≡ true → TimesFit t → sound u ≡ true → t.state.size ≡ u.state.size → Restored t u (load_image (image_of t) u)
