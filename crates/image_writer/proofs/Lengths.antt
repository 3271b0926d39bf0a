-- How many bytes the parts of an image take, and how many at most. Assumes nothing.
use Prim.Native.Nat.{ℕ, zero, suc, ◌+◌, ◌*◌, ◌^◌, ◌≤◌, ◌<◌}
use mathlib.Core.Path.{◌≡◌, sym, ap, ◌∙◌}
use mathlib.Core.List.{List, [], ◌∷◌, ◌++◌, map, flat_map}
use mathlib.Core.Bool.{true}
use native.Mathlib.Numerals.{add-one}
use native.Mathlib.Nat.{suc-mul}
use native.Mathlib.Omega.{arith}
use lib.ListN.{length, get_or, take, length-append}
use Rattle.words.specs.Constants.{stride, max_fields}
use Rattle.words.specs.Below.{positions}
use Rattle.words.specs.Words.{fabric_of, endpoint_of, group_of, scene_of, key_of_record, is_valid}
use Rattle.slots.specs.Slots.{SceneEntry, Slots, entry_at, length_at, fields_at, lengths_sound}
use Rattle.slots.proofs.Laws.{length_part}
use Rattle.slots.proofs.View.{lengths_at}
use Rattle.tlv.specs.Types.{end_type}
use Rattle.tlv.specs.Encoding.{number_bytes, octets_bytes, bool_bytes}
use Rattle.tlv.proofs.Codes.{number-length, octets-length, number_size_le, size_u8, size_u16, size_u32}
use Rattle.image_writer.specs.Image.{key_bytes, entry_bytes, record_bytes, array_bytes, image_bytes, key_length, entry_length, record_length, image_length_max}
use Rattle.image_writer.proofs.Firsts.{entries_up_to, entries_none, entries_more, records_up_to, records_none, records_more}

-- ---- how many

pub key-length : (key : ℕ) → length (key_bytes key) ≡ key_length key
key-length key =
    let a = number_bytes 0 (fabric_of key) in
    let b = number_bytes 1 (endpoint_of key) in
    let c = number_bytes 2 (group_of key) in
    let d = number_bytes 3 (scene_of key) in
    omega (
      arith,
      number-length 0 (fabric_of key),
      number-length 1 (endpoint_of key),
      number-length 2 (group_of key),
      number-length 3 (scene_of key),
      length-append a (b ++ (c ++ d)),
      length-append b (c ++ d),
      length-append c d,
    )

pub entry_length_lem : (e : SceneEntry) → length (entry_bytes e) ≡ entry_length e.key e.time (length e.fields)
entry_length_lem e =
    let a = key_bytes e.key in
    let b = number_bytes 4 e.time in
    let c = octets_bytes 5 e.fields in
    let z : List ℕ = end_type ∷ [] in
    omega (
      arith,
      key-length e.key,
      number-length 4 e.time,
      octets-length 5 e.fields,
      length-append a (b ++ (c ++ z)),
      length-append b (c ++ z),
      length-append c z,
    )

pub record_length_lem : (word : ℕ) → length (record_bytes word) ≡ record_length word
record_length_lem word =
    let a = key_bytes (key_of_record word) in
    let b = bool_bytes 4 (is_valid word) in
    omega (arith, key-length (key_of_record word), length-append a (b ++ (end_type ∷ [])))

-- ---- how many at most, whatever the words

pub key_le : (key : ℕ) → key_length key ≤ 40
key_le key =
    omega (arith, number_size_le (fabric_of key), number_size_le (endpoint_of key), number_size_le (group_of key), number_size_le (scene_of key))

-- what the first entries and the first records take: at most 200 bytes each
pub record Counted (len i : ℕ) (bytes : List ℕ) : Type 0 where
  pub exact : len ≡ length bytes
  pub under : len ≤ i * 200

pub none_counted : (bytes : List ℕ) → bytes ≡ [] → Counted 0 0 bytes
none_counted bytes e = record { exact = sym (ap length e); under = omega arith }

pub one_counted : (len more i : ℕ) (x y z : List ℕ) → Counted len i x → z ≡ x ++ y → more ≡ length y → more ≤ 200 → Counted (len + more) (i + 1) z
one_counted len more i x y z c e m l = record {
  exact = omega (arith, c.exact, ap length e, length-append x y);
  under = omega (arith, c.under);
}

pub entry_le : (key time n : ℕ) → n ≤ max_fields → entry_length key time n ≤ 200
entry_le key time n l = omega (arith, key_le key, number_size_le time, number_size_le n)

pub record_le : (word : ℕ) → record_length word ≤ 200
record_le word = omega (arith, key_le (key_of_record word))

-- ---- in a table

-- its field bytes are as many as the length byte says
pub fields-length : (fields : List ℕ) (i : ℕ) → i * stride + stride ≤ length fields → length_at fields i ≤ max_fields → length (fields_at fields i) ≡ length_at fields i
fields-length fields i h l = length_part fields (i * stride + 1) (length_at fields i) (omega arith)

pub entry_at_length : (s : Slots) (i : ℕ) → i * stride + stride ≤ length s.fields → length_at s.fields i ≤ max_fields
    → entry_length (get_or s.keys i 0) (get_or s.times i 0) (length_at s.fields i) ≡ length (entry_bytes (entry_at s i))
entry_at_length s i h l =
    ap (entry_length (get_or s.keys i 0) (get_or s.times i 0)) (sym (fields-length s.fields i h l)) ∙ sym (entry_length_lem (entry_at s i))

-- what the first n take at most, where each takes at most so many
grown_under : (firsts one : ℕ → List ℕ) (most n : ℕ)
    → firsts 0 ≡ []
    → ((i : ℕ) → i < n → firsts (i + 1) ≡ firsts i ++ one i)
    → ((i : ℕ) → i < n → length (one i) ≤ most)
    → length (firsts n) ≤ n * most
grown_under firsts one most zero z g h = omega (arith, ap length z)
grown_under firsts one most (suc n) z g h =
    let e = ap (λ k. length (firsts k)) (sym (add-one n)) ∙ ap length (g n (omega arith)) ∙ length-append (firsts n) (one n) in
    let r = grown_under firsts one most n z (λ i l. g i (omega arith)) (λ i l. h i (omega arith)) in
    omega (arith, e, suc-mul n most, h n (omega arith), r)

entries_under : (s : Slots) (most n : ℕ) → ((i : ℕ) → i < n → length (entry_bytes (entry_at s i)) ≤ most) → length (entries_up_to s n) ≤ n * most
entries_under s most n h = grown_under (entries_up_to s) (λ i. entry_bytes (entry_at s i)) most n (entries_none s) (λ i l. entries_more s i) h

records_under : (records : List ℕ) (most n : ℕ)
    → n ≤ length records
    → ((i : ℕ) → i < n → length (record_bytes (get_or records i 0)) ≤ most)
    → length (records_up_to records n) ≤ n * most
records_under records most n r h =
    grown_under (records_up_to records) (λ i. record_bytes (get_or records i 0)) most n (records_none records) (λ i l. records_more records i (omega arith)) h

-- whatever the words
pub entries_le : (s : Slots) (n : ℕ) → n * stride ≤ length s.fields → lengths_sound s.fields n ≡ true → length (entries_up_to s n) ≤ n * 200
entries_le s n h e =
    entries_under s 200 n
    (λ i l.
    let short = lengths_at s.fields n i e l in
    let exact = entry_at_length s i (omega arith) short in
    omega (arith, exact, entry_le (get_or s.keys i 0) (get_or s.times i 0) (length_at s.fields i) short))

pub records_le : (records : List ℕ) (n : ℕ) → n ≤ length records → length (records_up_to records n) ≤ n * 200
records_le records n h =
    records_under records 200 n h (λ i l. omega (arith, record_length_lem (get_or records i 0), record_le (get_or records i 0)))

-- ---- the image

pub image-length : (es : List SceneEntry) (rs : List ℕ) → 8 + length (flat_map entry_bytes es) + length (flat_map record_bytes rs) ≡ length (image_bytes es rs)
unfolding image_bytes
image-length es rs =
    let a = flat_map entry_bytes es in
    let b = flat_map record_bytes rs in
    let z : List ℕ = end_type ∷ [] in
    let r : List ℕ = array_bytes 1 b ++ z in
    omega (arith, length-append a z, length-append b z, length-append (b ++ z) z, length-append (a ++ z) r)

-- ---- how many at most, where the words are sound

pub key_most : (key : ℕ) → key < 2 ^ 48 → key_length key ≤ 14
key_most key l =
    omega (
      arith,
      size_u8 (fabric_of key) (omega arith),
      size_u16 (endpoint_of key) (omega arith),
      size_u16 (group_of key) (omega arith),
      size_u8 (scene_of key) (omega arith),
    )

pub entry_most : (e : SceneEntry) → e.key < 2 ^ 48 → e.time < 2 ^ 32 → length e.fields ≤ max_fields → length (entry_bytes e) ≤ 153
entry_most e k t f =
    omega (arith, entry_length_lem e, key_most e.key k, size_u32 e.time (omega arith), size_u8 (length e.fields) (omega arith))

pub record_most : (word : ℕ) → length (record_bytes word) ≤ 18
record_most word = omega (arith, record_length_lem word, key_most (key_of_record word) (omega arith))

pub image_most : (s : Slots) (records : List ℕ) (n m size : ℕ)
    → n ≤ size
    → m ≤ size
    → m ≤ length records
    → ((i : ℕ) → i < n → length (entry_bytes (entry_at s i)) ≤ 153)
    → length (image_bytes (map (entry_at s) (positions n)) (take m records)) ≤ image_length_max size
image_most s records n m size h l r e =
    omega (
      arith,
      image-length (map (entry_at s) (positions n)) (take m records),
      entries_under s 153 n e,
      records_under records 18 m r (λ i _. record_most (get_or records i 0)),
    )
