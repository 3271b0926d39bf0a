-- Entries and records of a table stand in its image as members of arrays. Assumes nothing.
use Prim.Native.Nat.{ℕ, ◌+◌, ◌-◌, ◌^◌, ◌≤◌, ◌<◌}
use mathlib.Core.Path.{◌≡◌, refl, ap, ◌∙◌}
use mathlib.Core.List.{List, [], ◌∷◌, ◌++◌}
use native.Mathlib.Numerals.{add-one}
use native.Mathlib.Omega.{arith}
use lib.ListN.{length, length-append}
use lib.Seq.{drop-cons}
use Rattle.std.proofs.Common.{Some}
use Rattle.words.specs.Constants.{max_fields}
use Rattle.words.specs.Words.{fabric_of, endpoint_of, group_of, scene_of, key_of_record, is_valid}
use Rattle.slots.specs.Slots.{SceneEntry, part}
use Rattle.tlv.specs.declared.elements.Element.{Element}
use Rattle.tlv.specs.Types.{struct_type, end_type}
use Rattle.tlv.specs.declared.members.Step.TheVariants.{Member}
use Rattle.tlv.specs.Encoding.{number_bytes, octets_bytes, bool_bytes, Holds}
use Rattle.tlv.proofs.Passes.{onward}
use Rattle.tlv.proofs.Codes.{number-length, octets-length}
use Rattle.tlv.proofs.Trips.{holds_first, holds_rest}
use Rattle.image_reader.specs.Entries.{entry_at, entry_in, record_at}
use Rattle.image_writer.specs.Image.{key_bytes, entry_bytes, record_bytes}
use Rattle.restoration.proofs.Trip.{key_end, fields_start, entry_end, record_end, entry_read, fields_stand, entry_through, entry-member}
use Rattle.restoration.proofs.Trip.{record_read, record_through, record_member}
use Rattle.restoration.proofs.Arrays.{Stands}

-- bytes that stand at a position are the part from there on
pub holds_part : (b : List ℕ) (at : ℕ) (xs : List ℕ) → Holds b at xs → part at (length xs) b ≡ xs
holds_part b at [] h = refl
holds_part b at (x ∷ xs) h =
    rw (drop-cons b at 0 (omega (arith, h.room)), holds_first b at x xs h, ← add-one at)
    (ap (λ (ys : List ℕ). x ∷ ys) (holds_part b (at + 1) xs (holds_rest b at x xs h)))

-- ---- how long they are

key-length : (key : ℕ) → key_end 0 key ≡ length (key_bytes key)
key-length key =
    let n0 = number-length 0 (fabric_of key) in
    let n1 = number-length 1 (endpoint_of key) in
    let n2 = number-length 2 (group_of key) in
    let n3 = number-length 3 (scene_of key) in
    omega (
      arith,
      length-append (number_bytes 0 (fabric_of key)) (number_bytes 1 (endpoint_of key) ++ (number_bytes 2 (group_of key) ++ number_bytes 3 (scene_of key))),
      length-append (number_bytes 1 (endpoint_of key)) (number_bytes 2 (group_of key) ++ number_bytes 3 (scene_of key)),
      length-append (number_bytes 2 (group_of key)) (number_bytes 3 (scene_of key)),
    )

entry_length_lem : (e : SceneEntry) (p : ℕ) → entry_end p e.key e.time (length e.fields) ≡ p + length (entry_bytes e)
entry_length_lem e p =
    let k = key-length e.key in
    let n = number-length 4 e.time in
    let o = octets-length 5 e.fields in
    omega (
      arith,
      length-append (key_bytes e.key) (number_bytes 4 e.time ++ (octets_bytes 5 e.fields ++ (end_type ∷ []))),
      length-append (number_bytes 4 e.time) (octets_bytes 5 e.fields ++ (end_type ∷ [])),
      length-append (octets_bytes 5 e.fields) (end_type ∷ []),
    )

record_length_lem : (word p : ℕ) → record_end p word ≡ p + length (record_bytes word)
record_length_lem word p =
    let k = key-length (key_of_record word) in
    omega (
      arith,
      length-append (key_bytes (key_of_record word)) (bool_bytes 4 (is_valid word) ++ (end_type ∷ [])),
      length-append (bool_bytes 4 (is_valid word)) (end_type ∷ []),
    )

-- ---- what a table's entries and record words have

pub record GoodEntry (e : SceneEntry) : Type 0 where
  pub key : e.key < 2 ^ 48
  pub fabric : 1 ≤ fabric_of e.key
  pub time : e.time < 2 ^ 32
  pub fields : length e.fields ≤ max_fields

pub record GoodRecord (word : ℕ) : Type 0 where
  pub below : word < 2 ^ 49
  pub fabric : 1 ≤ fabric_of (key_of_record word)

-- the start of a structure without a tag
abbrev struct_element : ℕ → Element
struct_element p = record { kind = struct_type; form = 0; tag = 0; value = p + 1; next = p + 1 }

module _ (b : List ℕ) where
  pub entry-stands : (e : SceneEntry) → GoodEntry e → (p : ℕ) → Holds b p (entry_bytes e)
      → Stands (λ i. entry_in b (entry_at b i)) b p (length (entry_bytes e)) e
  entry-stands e g p h =
      let n = length e.fields in
      let from = fields_start p e.key e.time n in
      let s : from + n - from ≡ n = omega arith in
      let q = entry_length_lem e p in
      let stand = fields_stand b p e.key e.time e.fields h g.key g.fabric g.time g.fields in
      record {
        taken =
            ap (entry_in b) (entry_read b p e.key e.time e.fields h g.key g.fabric g.time g.fields)
            ∙ ap (λ (x : List ℕ). Some (record { key = e.key; time = e.time; fields = x }))
            (ap (λ (k : ℕ). part from k b) s ∙ holds_part b from e.fields stand);
        element = struct_element p;
        member = entry-member b p e.key e.time e.fields h g.key g.fields ∙ ap (Member (struct_element p)) q;
        through = λ level. entry_through b p e.key e.time e.fields h g.key g.fields level ∙ ap (onward b level) q;
      }

  pub record_stands : (word : ℕ) → GoodRecord word → (p : ℕ) → Holds b p (record_bytes word)
      → Stands (record_at b) b p (length (record_bytes word)) word
  record_stands word g p h =
      let q = record_length_lem word p in
      record {
        taken = record_read b p word h g.fabric g.below;
        element = struct_element p;
        member = record_member b p word h ∙ ap (Member (struct_element p)) q;
        through = λ level. record_through b p word h level ∙ ap (onward b level) q;
      }
