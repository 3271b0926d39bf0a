-- The three lent slices that hold the entries, the entry at a position, and what the functions on them compute.
-- Document 01, "Forms that change first": SceneEntry, and how an entry is moved and written.
use Rattle.std.specs.Prelude.{ℕ, ◌+◌, ◌*◌, ◌^◌, Bool, not, ◌&&◌, ◌||◌, cond, List, [], ◌∷◌, ◌++◌, map, eqb, leb, ltb, length, take, drop, get_or, set, Option, Result, Ok, Err}
use Rattle.words.specs.Constants.{stride, max_fields}
use Rattle.words.specs.Words.{within, fabric_of, scene_of}
use Rattle.words.specs.Below.{every_below, count_below, first_below, kept_below}
use Rattle.words.specs.declared.KeyRange.{KeyRange}
use Rattle.slots.specs.declared.Unsound.{Unsound}

-- the lent slices, whole: key words, times, and 129 bytes for each entry
pub record Slots : Type 0 where
  pub keys : List ℕ
  pub times : List ℕ
  pub fields : List ℕ

abbrev pub slots_of : List ℕ → List ℕ → List ℕ → Slots
slots_of k t f = record { keys = k; times = t; fields = f }

-- ---- what is read

-- the first position below n that holds the key word
unfoldable pub first_key : List ℕ → ℕ → ℕ → Option ℕ
first_key keys n key = first_below (λ i. eqb (get_or keys i 0) key) n

-- how many of the first n key words lie in a range
unfoldable pub count_keys : List ℕ → ℕ → KeyRange → ℕ
count_keys keys n r = count_below (λ i. within r (get_or keys i 0)) n

-- below 2^48, with fabric 1 to 255
abbrev pub key_sound : ℕ → Bool
key_sound key = ltb key (2 ^ 48) && leb 1 (fabric_of key)

unfoldable pub keys_sound : List ℕ → ℕ → Bool
keys_sound keys n = every_below (λ i. key_sound (get_or keys i 0)) n

-- the length byte of the entry at a position
abbrev pub length_at : List ℕ → ℕ → ℕ
length_at fields at = get_or fields (at * stride) 0

unfoldable pub lengths_sound : List ℕ → ℕ → Bool
lengths_sound fields n = every_below (λ i. leb (length_at fields i) max_fields) n

-- the entry at a position: its key word and its length
abbrev pub entry_sound : List ℕ → List ℕ → ℕ → Bool
entry_sound keys fields i = key_sound (get_or keys i 0) && leb (length_at fields i) max_fields

-- what a search tells of entries that are sound, or not
abbrev pub searched : Bool → Option ℕ → Result (Option ℕ) Unsound
searched sound found = cond sound (Ok found) (Err (record {}))

-- whether p holds at one of four, or of eight, positions from i on: how a block is tested
abbrev pub of_four : (ℕ → Bool) → ℕ → Bool
of_four p i = ((p i || p (i + 1)) || p (i + 2)) || p (i + 3)

abbrev pub of_eight : (ℕ → Bool) → ℕ → Bool
of_eight p i = (((of_four p i || p (i + 4)) || p (i + 5)) || p (i + 6)) || p (i + 7)

-- the n bytes from a position on
abbrev pub part : ℕ → ℕ → List ℕ → List ℕ
part from n bytes = take n (drop from bytes)

-- the field bytes of the entry at a position, up to its length
abbrev pub fields_at : List ℕ → ℕ → List ℕ
fields_at fields at = part (at * stride + 1) (length_at fields at) fields

-- an entry as members see it: of the field bytes only those up to the length count
pub record SceneEntry : Type 0 where
  pub key : ℕ
  pub time : ℕ
  pub fields : List ℕ

abbrev pub entry_at : Slots → ℕ → SceneEntry
entry_at s i = record { key = get_or s.keys i 0; time = get_or s.times i 0; fields = fields_at s.fields i }

-- ---- what is written

-- old, with new written over it from a position on
unfoldable pub overlay : ℕ → List ℕ → List ℕ → List ℕ
overlay from new old = take from old ++ new ++ drop (from + length new) old

-- a length byte and the bytes
abbrev pub length_then : List ℕ → List ℕ
length_then bytes = length bytes ∷ bytes

-- a write: key word, time, length and the bytes up to it; the bytes past the length stay
unfoldable pub put_slot : ℕ → ℕ → ℕ → List ℕ → Slots → Slots
put_slot at key time bytes s = record {
  keys = set s.keys at key;
  times = set s.times at time;
  fields = overlay (at * stride) (length_then bytes) s.fields;
}

-- a move: the entry with all its 129 bytes; what stood at its own position stays there
unfoldable pub copy_slot : ℕ → ℕ → Slots → Slots
copy_slot from to s = record {
  keys = set s.keys to (get_or s.keys from 0);
  times = set s.times to (get_or s.times from 0);
  fields = overlay (to * stride) (part (from * stride) stride s.fields) s.fields;
}

-- new written over the front of old
unfoldable pub laid : List ℕ → List ℕ → List ℕ
laid new old = new ++ drop (length new) old

-- the 129 bytes of the entry at each of some positions
unfoldable pub chunks : List ℕ → List ℕ → List ℕ
chunks [] fields = []
chunks (at ∷ rest) fields = part (at * stride) stride fields ++ chunks rest fields

-- the entries at some positions moved to the front in that order; positions behind them keep what they held
unfoldable pub gathered : List ℕ → Slots → Slots
gathered ps s = record {
  keys = laid (map (λ i. get_or s.keys i 0) ps) s.keys;
  times = laid (map (λ i. get_or s.times i 0) ps) s.times;
  fields = laid (chunks ps s.fields) s.fields;
}

-- the positions below n whose key word lies outside a range, in order
unfoldable pub outside : List ℕ → ℕ → KeyRange → List ℕ
outside keys n r = kept_below (λ i. not (within r (get_or keys i 0))) n

-- the scene ids of the first n key words that lie in a range, in order
unfoldable pub scenes_inside : List ℕ → ℕ → KeyRange → List ℕ
scenes_inside keys n r = map (λ i. scene_of (get_or keys i 0)) (kept_below (λ i. within r (get_or keys i 0)) n)
