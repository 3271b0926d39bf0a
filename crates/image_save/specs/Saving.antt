-- What saving a table's image answers, and what it leaves of the image buffer: document 02, Q-1.
use Rattle.std.specs.Prelude.{ℕ, ◌^◌, ◌≤◌, ◌<◌, ◌≡◌, true, cond, List, leb, length, get_or}
use Rattle.words.specs.Constants.{success, buffer_too_short}
use Rattle.slots.specs.Slots.{laid}
use Rattle.state.specs.Table.{Table, entries_in, records_in}
use Rattle.state.specs.Sound.{sound}
use Rattle.state.specs.Answer.{refusal_of, guarded}
use Rattle.image_writer.specs.Image.{image_bytes, image_length_max}
use Rattle.image_save.specs.declared.ImageSaved.{ImageSaved}

-- the image of a table: its entries and its records, in order
abbrev pub image_of : Table → List ℕ
image_of t = image_bytes (entries_in t) (records_in t)

-- the answer, and the image buffer
pub record Saved : Type 0 where
  pub answer : ImageSaved
  pub buffer : List ℕ

abbrev pub saved_of : ImageSaved → List ℕ → Saved
saved_of a b = record { answer = a; buffer = b }

-- a refusal writes nothing
abbrev pub unsaved : List ℕ → Table → ℕ → Saved
unsaved buffer t n = saved_of (record { status = n; len = 0; state = t.state }) buffer

-- 8 if the image is longer than the buffer
abbrev pub buffer_gate : ℕ → ℕ → ℕ
buffer_gate image buffer = cond (leb image buffer) success buffer_too_short

-- the image in the buffer's front; the rest of the buffer stays
unfoldable pub save_image : List ℕ → Table → Saved
save_image buffer t =
    guarded (unsaved buffer t) (refusal_of t (buffer_gate (length (image_of t)) (length buffer)))
    (saved_of (record { status = success; len = length (image_of t); state = t.state }) (laid (image_of t) buffer))

-- ---- how long a buffer is long enough

-- times of 32 bits, as the lent memory holds them
abbrev pub TimesFit : Table → Type 0
TimesFit t = (i : ℕ) → i < t.state.entries → get_or t.slots.times i 0 < 2 ^ 32

-- an image of a sound table of N places has at most 171 N + 8 bytes, and a buffer of as many is never answered 8
abbrev pub ImageBound : Type 0
ImageBound = (t : Table) → sound t ≡ true → TimesFit t
    → (length (image_of t) ≤ image_length_max t.state.size)
    × ((buffer : List ℕ) → image_length_max t.state.size ≤ length buffer → (save_image buffer t).answer.status ≡ success)
