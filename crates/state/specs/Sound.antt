-- When a table is sound: document 01, "Forms that change first", the list behind "Sound".
use Rattle.std.specs.Prelude.{ℕ, ◌*◌, Bool, [], ◌∷◌, length, nat_le}
use Rattle.words.specs.Constants.{max_scenes, stride}
use Rattle.words.specs.Conditions.{all_of}
use Rattle.slots.specs.Slots.{keys_sound, lengths_sound}
use Rattle.records.specs.Records.{records_sound}
use Rattle.state.specs.declared.ScenesState.{ScenesState}
use Rattle.state.specs.Table.{Table}

-- N at most 1,024, the counts at most N, lent slices long enough for N: by the lengths of the slices
unfoldable pub in_bounds : ScenesState → ℕ → ℕ → ℕ → ℕ → Bool
in_bounds s keys times fields records =
    all_of (nat_le s.size max_scenes
    ∷ nat_le s.entries s.size
    ∷ nat_le s.recorded s.size
    ∷ nat_le s.size keys
    ∷ nat_le s.size times
    ∷ nat_le (s.size * stride) fields
    ∷ nat_le s.size records
    ∷ [])

-- and, at positions below the counts, sound key words, lengths and record words. Repeated keys and records are not looked for
unfoldable pub sound : Table → Bool
sound t =
    all_of (in_bounds t.state (length t.slots.keys) (length t.slots.times) (length t.slots.fields) (length t.records)
    ∷ keys_sound t.slots.keys t.state.entries
    ∷ lengths_sound t.slots.fields t.state.entries
    ∷ records_sound t.records t.state.recorded
    ∷ [])
