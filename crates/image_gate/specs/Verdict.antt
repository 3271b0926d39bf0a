-- What refuses an image, 9 and then 10: document 02, Q-1.
use Rattle.std.specs.Prelude.{ℕ, Bool, true, false, cond, ◌||◌, List, map, length, get_or, is_some, Option, Some, None}
use Rattle.words.specs.Constants.{success, bad_image, clashing_image}
use Rattle.words.specs.Words.{fabric_of, endpoint_of, scene_of, key_of_record}
use Rattle.words.specs.Below.{any_below}
use Rattle.slots.specs.Slots.{SceneEntry, first_key}
use Rattle.records.specs.Records.{first_owned}
use Rattle.requests.specs.Requests.{reserved}
use Rattle.image_reader.specs.Image.{Image, image_in}

-- ---- 10

-- scene 0 or 255
abbrev pub barred : ℕ → Bool
barred key = reserved (scene_of key)

-- the key word at a position has such a scene, or stands before it too
abbrev pub key_clashes : List ℕ → ℕ → Bool
key_clashes keys i = barred (get_or keys i 0) || is_some (first_key keys i (get_or keys i 0))

unfoldable pub keys_clash : List ℕ → Bool
keys_clash keys = any_below (key_clashes keys) (length keys)

-- the record word at a position has such a scene, or a record of its owner stands before it
abbrev pub record_clashes : List ℕ → ℕ → Bool
record_clashes words i =
    let key : ℕ = key_of_record (get_or words i 0) in
    barred key || is_some (first_owned words i (fabric_of key) (endpoint_of key))

unfoldable pub records_clash : List ℕ → Bool
records_clash words = any_below (record_clashes words) (length words)

abbrev pub keys_of : Image → List ℕ
keys_of i = map (λ (e : SceneEntry). e.key) i.entries

-- two entries with one key, two records of one fabric, or scene 0 or 255 anywhere
abbrev pub clashes : Image → Bool
clashes i = keys_clash (keys_of i) || records_clash i.records

-- 9 for bytes that `from_tlv` refuses, then 10
unfoldable pub verdict : Option Image → ℕ
verdict None = bad_image
verdict (Some i) = cond (clashes i) clashing_image success

abbrev pub image_gate : ℕ → List ℕ → ℕ
image_gate size bytes = verdict (image_in size bytes)
