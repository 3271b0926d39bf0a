-- What an image says of an entry and of a record, as `from_tlv` of SceneEntry and CurrentScene takes it: document 02, Q-1. Both are
-- structures whose members stand in any order; of two with a tag the first counts, and other members are passed over.
use Rattle.tlv.specs.Passing.{reading}
use Rattle.std.specs.Prelude.{ℕ, ◌+◌, ◌-◌, ◌^◌, Bool, cond, List, eqb, leb, Option, Some, None}
use Rattle.words.specs.Constants.{max_fields}
use Rattle.words.specs.Words.{key_of}
use Rattle.slots.specs.Slots.{SceneEntry, part}
use Rattle.tlv.specs.declared.values.Span.{Span}
use Rattle.tlv.specs.Types.{u8_type, u16_type, u32_type, struct_type}
use Rattle.tlv.specs.Values.{number_at, bool_at, octets_at, inside_at}
use Rattle.tlv.specs.Members.{Search, Found, Missing, Spoiled, found_from}
use Rattle.image_reader.specs.declared.Slot.{Slot}

-- goes on with what was found, or without
abbrev pub searching : {A : Type 0} → Search → A → (ℕ → A) → A
searching (Found at) other go = go at
searching Missing other go = other
searching Spoiled other go = other

-- ---- members, from the first of a structure on

-- a number, of a type no wider than `most`
unfoldable pub member_number : ℕ → ℕ → List ℕ → ℕ → Option ℕ
member_number tag most bytes from = searching (found_from tag bytes from) None (number_at most bytes)

unfoldable pub member_bool : ℕ → List ℕ → ℕ → Option Bool
member_bool tag bytes from = searching (found_from tag bytes from) None (bool_at bytes)

unfoldable pub member_octets : ℕ → List ℕ → ℕ → Option Span
member_octets tag bytes from = searching (found_from tag bytes from) None (octets_at bytes)

-- the key word of members 0 to 3: a fabric other than 0, an endpoint, a group and a scene
unfoldable pub key_from : List ℕ → ℕ → Option ℕ
key_from bytes from =
    reading (member_number 0 u8_type bytes from) None λ fabric.
    cond (eqb fabric 0) None
    (reading (member_number 1 u16_type bytes from) None λ endpoint.
    reading (member_number 2 u16_type bytes from) None λ group.
    reading (member_number 3 u8_type bytes from) None λ scene. Some (key_of fabric endpoint group scene))

-- ---- an entry and a record

-- a key, a time under tag 4 and at most 128 field bytes under tag 5
unfoldable pub entry_at : List ℕ → ℕ → Option Slot
entry_at bytes at =
    reading (inside_at struct_type bytes at) None λ from.
    reading (key_from bytes from) None λ key.
    reading (member_number 4 u32_type bytes from) None λ time.
    reading (member_octets 5 bytes from) None λ fields.
    cond (leb (fields.to - fields.from) max_fields) (Some (record { key = key; time = time; from = fields.from; to = fields.to })) None

-- the entry with its field bytes
abbrev pub scene_entry : List ℕ → Slot → SceneEntry
scene_entry bytes s = record { key = s.key; time = s.time; fields = part s.from (s.to - s.from) bytes }

abbrev pub entry_in : List ℕ → Option Slot → Option SceneEntry
entry_in bytes (Some s) = Some (scene_entry bytes s)
entry_in bytes None = None

-- the record word of a key, and whether it is valid under tag 4. The members of a record, too, may stand in any order (docs/DECISIONS.md)
unfoldable pub record_at : List ℕ → ℕ → Option ℕ
record_at bytes at =
    reading (inside_at struct_type bytes at) None λ from.
    reading (key_from bytes from) None λ key.
    reading (member_bool 4 bytes from) None λ valid. Some (cond valid (key + 2 ^ 48) key)
