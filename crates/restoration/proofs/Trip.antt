-- An entry that is written into an image is read back, and so is a record. Assumes nothing.
use Prim.Native.Nat.{ℕ, suc, ◌+◌, ◌-◌, ◌^◌, ◌≤◌, ◌<◌}
use mathlib.Core.Path.{◌≡◌, refl, ap, subst, ◌∙◌}
use mathlib.Core.Bool.{true, false, cond}
use mathlib.Core.List.{List, [], ◌∷◌, ◌++◌}
use native.Mathlib.Omega.{arith}
use lib.Dec.{leb, eqb-suc-zero}
use lib.ListN.{length, length-append}
use borrow.Author.Tests.{ne_eqb, le-leb, leb-true, leb-false}
use Rattle.std.proofs.Common.{Some}
use Rattle.words.specs.Words.{fabric_of, endpoint_of, group_of, scene_of, key_of, key_of_record, is_valid}
use Rattle.tlv.specs.declared.members.Step.TheVariants.{Member}
use Rattle.words.specs.Constants.{max_fields}
use Rattle.tlv.specs.Types.{struct_type, end_type}
use Rattle.tlv.specs.Elements.{width}
use Rattle.tlv.specs.Passing.{passed_from}
use Rattle.tlv.specs.Values.{span}
use Rattle.tlv.specs.Members.{member_at, found_from}
use Rattle.tlv.specs.Encoding.{smallest, number_bytes, octets_bytes, bool_bytes, number_size, octets_size, Holds}
use Rattle.tlv.proofs.Passes.{onward}
use Rattle.tlv.proofs.Codes.{number-length, octets-length}
use Rattle.tlv.proofs.Walks.{member_goes, find-tag, find-other}
use Rattle.tlv.proofs.Trips.{holds_left, holds_right, holds_first, smallest_u8, smallest_u16, smallest_u32}
use Rattle.tlv.proofs.Trips.{number-member, number-held, number_through, bool_member, bool_held, bool_through}
use Rattle.tlv.proofs.Trips.{octets-member, octets-held, octets_stand, octets_through, open_inside, open_through, end_through, open_element_lem}
use Rattle.image_reader.specs.Entries.{member_number, member_bool, member_octets, key_from, entry_at, record_at}
use Rattle.image_writer.specs.Image.{key_bytes, entry_bytes, record_bytes}

-- ---- where the parts of what is written stand

-- what stands behind a key, and where the field bytes of an entry start
abbrev pub key_end : ℕ → ℕ → ℕ
key_end at key = at + number_size (fabric_of key) + number_size (endpoint_of key) + number_size (group_of key) + number_size (scene_of key)

abbrev pub fields_start : ℕ → ℕ → ℕ → ℕ → ℕ
fields_start at key time count = key_end (at + 1) key + number_size time + 2 + width (smallest count)

-- what stands behind an entry
abbrev pub entry_end : ℕ → ℕ → ℕ → ℕ → ℕ
entry_end at key time count = key_end (at + 1) key + number_size time + octets_size count + 1

-- and behind a record
abbrev pub record_end : ℕ → ℕ → ℕ
record_end at word = key_end (at + 1) (key_of_record word) + 2 + 1

-- what stands behind a number
behind : (b : List ℕ) (p tag v : ℕ) (ys : List ℕ) → Holds b p (number_bytes tag v ++ ys) → Holds b (p + number_size v) ys
behind b p tag v ys h =
    let e : p + length (number_bytes tag v) ≡ p + number_size v = omega (arith, number-length tag v) in
    subst (λ (k : ℕ). Holds b k ys) e (holds_right b p (number_bytes tag v) ys h)

through : (b : List ℕ) (p q level : ℕ) → passed_from b (suc level) p ≡ onward b (suc level) q → passed_from b (suc level) p ≡ passed_from b (suc level) q
through b p q level e = e ∙ rw (eqb-suc-zero level)

-- ---- a key

module _ (b : List ℕ) (p key : ℕ) (h : Holds b p (key_bytes key)) (l : key < 2 ^ 48) where
  abbrev p1 : ℕ
  p1 = p + number_size (fabric_of key)

  abbrev p2 : ℕ
  p2 = p1 + number_size (endpoint_of key)

  abbrev p3 : ℕ
  p3 = p2 + number_size (group_of key)

  abbrev p4 : ℕ
  p4 = p3 + number_size (scene_of key)

  h1 : Holds b p1 (number_bytes 1 (endpoint_of key) ++ (number_bytes 2 (group_of key) ++ number_bytes 3 (scene_of key)))
  h1 = behind b p 0 (fabric_of key) (number_bytes 1 (endpoint_of key) ++ (number_bytes 2 (group_of key) ++ number_bytes 3 (scene_of key))) h

  h2 : Holds b p2 (number_bytes 2 (group_of key) ++ number_bytes 3 (scene_of key))
  h2 = behind b p1 1 (endpoint_of key) (number_bytes 2 (group_of key) ++ number_bytes 3 (scene_of key)) h1

  h3 : Holds b p3 (number_bytes 3 (scene_of key))
  h3 = behind b p2 2 (group_of key) (number_bytes 3 (scene_of key)) h2

  g0 : Holds b p (number_bytes 0 (fabric_of key))
  g0 = holds_left b p (number_bytes 0 (fabric_of key)) (number_bytes 1 (endpoint_of key) ++ (number_bytes 2 (group_of key) ++ number_bytes 3 (scene_of key))) h

  g1 : Holds b p1 (number_bytes 1 (endpoint_of key))
  g1 = holds_left b p1 (number_bytes 1 (endpoint_of key)) (number_bytes 2 (group_of key) ++ number_bytes 3 (scene_of key)) h1

  g2 : Holds b p2 (number_bytes 2 (group_of key))
  g2 = holds_left b p2 (number_bytes 2 (group_of key)) (number_bytes 3 (scene_of key)) h2

  past0 : (tag : ℕ) → (0 ≡ tag → ⊥) → found_from tag b p ≡ found_from tag b p1
  past0 tag z = find-other tag b p _ _ (number-member b p 0 (fabric_of key) g0) z refl

  past1 : (tag : ℕ) → 1 < tag → found_from tag b p ≡ found_from tag b p2
  past1 tag z = past0 tag (λ e. omega arith) ∙ find-other tag b p1 _ _ (number-member b p1 1 (endpoint_of key) g1) (λ e. omega arith) refl

  past2 : (tag : ℕ) → 2 < tag → found_from tag b p ≡ found_from tag b p3
  past2 tag z = past1 tag (omega arith) ∙ find-other tag b p2 _ _ (number-member b p2 2 (group_of key) g2) (λ e. omega arith) refl

  past-key : (tag : ℕ) → 3 < tag → found_from tag b p ≡ found_from tag b p4
  past-key tag z = past2 tag (omega arith) ∙ find-other tag b p3 _ _ (number-member b p3 3 (scene_of key) h3) (λ e. omega arith) refl

  fabric-read : member_number 0 4 b p ≡ Some (fabric_of key)
  unfolding member_number
  fabric-read =
      rw (find-tag 0 b p _ _ (number-member b p 0 (fabric_of key) g0) refl refl)
      (number-held b p 0 (fabric_of key) g0 4 (smallest_u8 (fabric_of key) (omega arith)) (omega arith))

  endpoint-read : member_number 1 5 b p ≡ Some (endpoint_of key)
  unfolding member_number
  endpoint-read =
      rw (past0 1 (λ e. omega arith) ∙ find-tag 1 b p1 _ _ (number-member b p1 1 (endpoint_of key) g1) refl refl)
      (number-held b p1 1 (endpoint_of key) g1 5 (smallest_u16 (endpoint_of key) (omega arith)) (omega arith))

  group-read : member_number 2 5 b p ≡ Some (group_of key)
  unfolding member_number
  group-read =
      rw (past1 2 (omega arith) ∙ find-tag 2 b p2 _ _ (number-member b p2 2 (group_of key) g2) refl refl)
      (number-held b p2 2 (group_of key) g2 5 (smallest_u16 (group_of key) (omega arith)) (omega arith))

  scene-read : member_number 3 4 b p ≡ Some (scene_of key)
  unfolding member_number
  scene-read =
      rw (past2 3 (omega arith) ∙ find-tag 3 b p3 _ _ (number-member b p3 3 (scene_of key) h3) refl refl)
      (number-held b p3 3 (scene_of key) h3 4 (smallest_u8 (scene_of key) (omega arith)) (omega arith))

  key-read : 0 < fabric_of key → key_from b p ≡ Some key
  unfolding key_from
  key-read f =
      let e : key_of (fabric_of key) (endpoint_of key) (group_of key) (scene_of key) ≡ key = omega arith in
      rw (fabric-read, ne_eqb (fabric_of key) 0 (λ z. omega arith), endpoint-read, group-read, scene-read) (ap Some e)

  -- the open containers stay as they were
  key_through : (level : ℕ) → passed_from b (suc level) p ≡ passed_from b (suc level) p4
  key_through level =
      through b p p1 level (number_through b p 0 (fabric_of key) g0 (suc level))
      ∙ through b p1 p2 level (number_through b p1 1 (endpoint_of key) g1 (suc level))
      ∙ through b p2 p3 level (number_through b p2 2 (group_of key) g2 (suc level))
      ∙ through b p3 p4 level (number_through b p3 3 (scene_of key) h3 (suc level))

  -- where the key ends
  key-behind : p + length (key_bytes key) ≡ p4
  key-behind =
      omega (
        arith,
        number-length 0 (fabric_of key),
        number-length 1 (endpoint_of key),
        number-length 2 (group_of key),
        number-length 3 (scene_of key),
        length-append (number_bytes 0 (fabric_of key)) (number_bytes 1 (endpoint_of key) ++ (number_bytes 2 (group_of key) ++ number_bytes 3 (scene_of key))),
        length-append (number_bytes 1 (endpoint_of key)) (number_bytes 2 (group_of key) ++ number_bytes 3 (scene_of key)),
        length-append (number_bytes 2 (group_of key)) (number_bytes 3 (scene_of key)),
      )

-- ---- an entry

module _ (b : List ℕ) (at key time : ℕ) (fields : List ℕ) (h : Holds b at (entry_bytes (record { key = key; time = time; fields = fields })))
    (l : key < 2 ^ 48) where
  abbrev entry_rest : List ℕ
  entry_rest = number_bytes 4 time ++ (octets_bytes 5 fields ++ (end_type ∷ []))

  entry_inside : Holds b (at + 1) (key_bytes key ++ entry_rest)
  entry_inside = holds_right b at (struct_type ∷ []) (key_bytes key ++ entry_rest) h

  entry_key : Holds b (at + 1) (key_bytes key)
  entry_key = holds_left b (at + 1) (key_bytes key) entry_rest entry_inside

  abbrev time_at : ℕ
  time_at = key_end (at + 1) key

  abbrev fields_at : ℕ
  fields_at = time_at + number_size time

  entry_rest_lem : Holds b time_at entry_rest
  entry_rest_lem = subst (λ (k : ℕ). Holds b k entry_rest) (key-behind b (at + 1) key entry_key l) (holds_right b (at + 1) (key_bytes key) entry_rest entry_inside)

  entry-time : Holds b time_at (number_bytes 4 time)
  entry-time = holds_left b time_at (number_bytes 4 time) (octets_bytes 5 fields ++ (end_type ∷ [])) entry_rest_lem

  entry-fields : Holds b fields_at (octets_bytes 5 fields)
  entry-fields = holds_left b fields_at (octets_bytes 5 fields) (end_type ∷ []) (behind b time_at 4 time (octets_bytes 5 fields ++ (end_type ∷ [])) entry_rest_lem)

  time-read : time < 2 ^ 32 → member_number 4 6 b (at + 1) ≡ Some time
  unfolding member_number
  time-read t =
      rw (past-key b (at + 1) key entry_key l 4 (omega arith) ∙ find-tag 4 b time_at _ _ (number-member b time_at 4 time entry-time) refl refl)
      (number-held b time_at 4 time entry-time 6 (smallest_u32 time t) (omega arith))

  abbrev start : ℕ
  start = fields_start at key time (length fields)

  fields_read_lem : length fields ≤ max_fields → member_octets 5 b (at + 1) ≡ Some (span start (start + length fields))
  unfolding member_octets
  fields_read_lem n =
      let m : length fields < 2 ^ 64 = omega arith in
      rw (past-key b (at + 1) key entry_key l 5 (omega arith)
      ∙ find-other 5 b time_at _ _ (number-member b time_at 4 time entry-time) (λ e. omega arith) refl
      ∙ find-tag 5 b fields_at _ _ (octets-member b fields_at 5 fields entry-fields m) refl refl)
      (octets-held b fields_at 5 fields entry-fields m ∙ ap (λ (n : ℕ). Some (span start n)) (omega arith))

  module _ (f : 0 < fabric_of key) (t : time < 2 ^ 32) (n : length fields ≤ max_fields) where
    -- an entry that is written is read back
    pub entry_read :
        let from = fields_start at key time (length fields) in
        entry_at b at ≡ Some (record { key = key; time = time; from = from; to = from + length fields })
    unfolding entry_at
    entry_read =
        let e : start + length fields - start ≡ length fields = omega arith in
        let first = holds_first b at struct_type (key_bytes key ++ entry_rest) h in
        rw (
          open_inside b at struct_type first (omega arith) (omega arith) (omega (arith, h.room)),
          key-read b (at + 1) key entry_key l f,
          time-read t,
          fields_read_lem n,
          e,
          le-leb (length fields) max_fields n,
        )

    -- and its field bytes stand where it says
    pub fields_stand : Holds b (fields_start at key time (length fields)) fields
    fields_stand = octets_stand b fields_at 5 fields entry-fields (omega arith)

  entry_end_lem : length fields ≤ max_fields → Holds b (fields_at + octets_size (length fields)) (end_type ∷ [])
  entry_end_lem n =
      let e : fields_at + length (octets_bytes 5 fields) ≡ fields_at + octets_size (length fields) = omega (arith, octets-length 5 fields) in
      let rest = behind b time_at 4 time (octets_bytes 5 fields ++ (end_type ∷ [])) entry_rest_lem in
      subst (λ (k : ℕ). Holds b k (end_type ∷ [])) e (holds_right b fields_at (octets_bytes 5 fields) (end_type ∷ []) rest)

  -- an entry that is written is passed over as a whole, however many containers are open
  pub entry_through : length fields ≤ max_fields → (level : ℕ) → passed_from b level at ≡ onward b level (entry_end at key time (length fields))
  entry_through n level =
      let m : length fields < 2 ^ 64 = omega arith in
      let end = fields_at + octets_size (length fields) in
      let last = entry_end_lem n in
      open_through b at struct_type (holds_first b at struct_type (key_bytes key ++ entry_rest) h) (omega arith) (omega arith) (omega (arith, h.room)) level
      ∙ key_through b (at + 1) key entry_key l level
      ∙ through b time_at fields_at level (number_through b time_at 4 time entry-time (suc level))
      ∙ through b fields_at end level (octets_through b fields_at 5 fields entry-fields m (suc level))
      ∙ end_through b end (holds_first b end end_type [] last) (omega (arith, last.room)) level

  pub entry-member :
      length fields ≤ max_fields
      → member_at b at ≡ Member (record { kind = struct_type; form = 0; tag = 0; value = at + 1; next = at + 1 }) (entry_end at key time (length fields))
  entry-member n =
      let first = holds_first b at struct_type (key_bytes key ++ entry_rest) h in
      let opened = open_element_lem b at struct_type first (omega arith) (omega arith) (omega (arith, h.room)) in
      member_goes b at (omega (arith, h.room)) _ opened (λ z. omega arith) (entry_end at key time (length fields)) (entry_through n 0)

-- ---- a record

module _ (b : List ℕ) (at word : ℕ) (h : Holds b at (record_bytes word)) where
  abbrev word_key : ℕ
  word_key = key_of_record word

  abbrev record_rest : List ℕ
  record_rest = bool_bytes 4 (is_valid word) ++ (end_type ∷ [])

  record_inside : Holds b (at + 1) (key_bytes word_key ++ record_rest)
  record_inside = holds_right b at (struct_type ∷ []) (key_bytes word_key ++ record_rest) h

  record_key : Holds b (at + 1) (key_bytes word_key)
  record_key = holds_left b (at + 1) (key_bytes word_key) record_rest record_inside

  key_small : word_key < 2 ^ 48
  key_small = omega arith

  record_rest_lem : Holds b (key_end (at + 1) word_key) record_rest
  record_rest_lem =
      subst (λ (k : ℕ). Holds b k record_rest) (key-behind b (at + 1) word_key record_key key_small)
      (holds_right b (at + 1) (key_bytes word_key) record_rest record_inside)

  record_flag : Holds b (key_end (at + 1) word_key) (bool_bytes 4 (is_valid word))
  record_flag = holds_left b (key_end (at + 1) word_key) (bool_bytes 4 (is_valid word)) (end_type ∷ []) record_rest_lem

  valid-read : member_bool 4 b (at + 1) ≡ Some (is_valid word)
  unfolding member_bool
  valid-read =
      rw (past-key b (at + 1) word_key record_key key_small 4 (omega arith)
      ∙ find-tag 4 b (key_end (at + 1) word_key) _ _ (bool_member b (key_end (at + 1) word_key) 4 (is_valid word) record_flag) refl refl)
      (bool_held b (key_end (at + 1) word_key) 4 (is_valid word) record_flag)

  word_again : word < 2 ^ 49 → cond (is_valid word) (word_key + 2 ^ 48) word_key ≡ word
  word_again l =
      elim (leb (2 ^ 48) word) as (λ t. leb (2 ^ 48) word ≡ t → cond t (word_key + 2 ^ 48) word_key ≡ word) [
        | true ↦ λ e. let m = leb-true (2 ^ 48) word e in omega arith
        | false ↦ λ e. let m = leb-false (2 ^ 48) word e in omega arith
      ] refl

  -- a record that is written is read back
  pub record_read : 0 < fabric_of (key_of_record word) → word < 2 ^ 49 → record_at b at ≡ Some word
  unfolding record_at
  record_read f l =
      let first = holds_first b at struct_type (key_bytes word_key ++ record_rest) h in
      rw (
        open_inside b at struct_type first (omega arith) (omega arith) (omega (arith, h.room)),
        key-read b (at + 1) word_key record_key key_small f,
        valid-read,
      )
      (ap Some (word_again l))

  record_end_lem : Holds b (key_end (at + 1) word_key + 2) (end_type ∷ [])
  record_end_lem = holds_right b (key_end (at + 1) word_key) (bool_bytes 4 (is_valid word)) (end_type ∷ []) record_rest_lem

  -- and it is passed over as a whole
  pub record_through : (level : ℕ) → passed_from b level at ≡ onward b level (record_end at word)
  record_through level =
      let flagFrom = key_end (at + 1) word_key in
      open_through b at struct_type (holds_first b at struct_type (key_bytes word_key ++ record_rest) h) (omega arith) (omega arith) (omega (arith, h.room)) level
      ∙ key_through b (at + 1) word_key record_key key_small level
      ∙ through b flagFrom (flagFrom + 2) level (bool_through b flagFrom 4 (is_valid word) record_flag (suc level))
      ∙ end_through b (flagFrom + 2) (holds_first b (flagFrom + 2) end_type [] record_end_lem) (omega (arith, record_end_lem.room)) level

  pub record_member : member_at b at ≡ Member (record { kind = struct_type; form = 0; tag = 0; value = at + 1; next = at + 1 }) (record_end at word)
  record_member =
      member_goes b at (omega (arith, h.room)) _
      (open_element_lem b at struct_type (holds_first b at struct_type (key_bytes word_key ++ record_rest) h) (omega arith) (omega arith) (omega (arith, h.room)))
      (λ z. omega arith) (record_end at word) (record_through 0)
