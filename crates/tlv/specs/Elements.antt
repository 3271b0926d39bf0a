-- The element at a position of some bytes: document 02, Q-1; the TLV appendix of the Matter Core Specification, on the encoding of an element:
-- a control octet (element type field, tag control field), a tag, a length where the type has one, a value. Numbers and lengths stand
-- lowest octet first.
--
-- Where read.rs and the appendix part, this follows read.rs. The types 25 to 31, which the appendix reserves, are refused, and so is
-- an end of a container with a tag, wherever it stands. Laxer: the octets of text need not be UTF-8, a tag may be of any kind in any
-- container, and the octets of a float are not looked at. A container's element is its head alone; `Passing` and `Members` have the rest.
use Rattle.std.specs.Prelude.{ℕ, zero, suc, ◌+◌, ◌*◌, ◌/◌, ◌%◌, Bool, cond, ◌&&◌, ◌||◌, List, [], ◌∷◌, eqb, ltb, leb, length, get_or, Option, Some, None}
use Rattle.tlv.specs.declared.elements.Element.{Element}
use Rattle.tlv.specs.Types.{type_count, width_count, false_type, f32_type, f64_type, null_type, end_type, context_tagged}

-- ---- the control octet

-- the element type field: the low five bits
abbrev pub kind_of : ℕ → ℕ
kind_of control = control % type_count

-- the tag control field: the high three bits
abbrev pub form_of : ℕ → ℕ
form_of control = control / type_count

-- every type below the end of a container, whatever the tag control; and that end without a tag
unfoldable pub known : ℕ → Bool
known control = ltb (kind_of control) end_type || eqb control end_type

-- structures, arrays and lists: the types between null and the end
unfoldable pub opens : ℕ → Bool
opens kind = ltb null_type kind && ltb kind end_type

-- ---- sizes

-- the octets of a tag, for each tag control
unfoldable pub tag_size : ℕ → ℕ
tag_size form = get_or (0 ∷ 1 ∷ 2 ∷ 4 ∷ 2 ∷ 4 ∷ 6 ∷ 8 ∷ []) form 0

-- 1, 2, 4 or 8, as the low two bits of a type say
unfoldable pub width : ℕ → ℕ
width kind = get_or (1 ∷ 2 ∷ 4 ∷ 8 ∷ []) (kind % width_count) 0

-- text and octet strings, the types between the floats and null: the value stands behind its length
unfoldable pub measured : ℕ → Bool
measured kind = ltb f64_type kind && ltb kind null_type

-- the octets of the length
unfoldable pub length_size : ℕ → ℕ
length_size kind = cond (measured kind) (width kind) 0

-- the octets of a value without a length: numbers, which stand below false, floats, and none for the rest
unfoldable pub plain_size : ℕ → ℕ
plain_size kind = cond (ltb kind false_type) (width kind) (cond (eqb kind f32_type) 4 (cond (eqb kind f64_type) 8 0))

-- the number that some bytes hold from a position on, the lowest first
unfoldable pub little : ℕ → List ℕ → ℕ → ℕ
little zero bytes at = 0
little (suc n) bytes at = get_or bytes at 0 + 256 * little n bytes (at + 1)

-- the octets of a value whose length, if it has one, stands at a position
unfoldable pub size_of : List ℕ → ℕ → ℕ → ℕ
size_of bytes kind from = cond (measured kind) (little (width kind) bytes from) (plain_size kind)

-- ---- the element at a position

module _ (bytes : List ℕ) (at : ℕ) where
  abbrev pub control_at : ℕ
  control_at = get_or bytes at 0

  -- the number of a context tag, or 0
  unfoldable pub context_tag : ℕ → ℕ
  context_tag form = cond (eqb form context_tagged) (get_or bytes (at + 1) 0) 0

  -- the position of the length, behind the tag
  unfoldable pub length_from : ℕ
  length_from = at + 1 + tag_size (form_of control_at)

  -- the position of the value; for a container, of its first member
  unfoldable pub value_from : ℕ
  value_from = length_from + length_size (kind_of control_at)

  -- the position behind the value
  unfoldable pub value_end : ℕ
  value_end = value_from + size_of bytes (kind_of control_at) length_from

  -- an element of a known type stands there, with its value
  unfoldable pub whole : Bool
  whole = ltb at (length bytes) && (known control_at && leb value_end (length bytes))

  abbrev pub element_from : Element
  element_from = record {
    kind = kind_of control_at;
    form = form_of control_at;
    tag = context_tag (form_of control_at);
    value = value_from;
    next = value_end;
  }

  unfoldable pub element_at : Option Element
  element_at = cond whole (Some element_from) None
