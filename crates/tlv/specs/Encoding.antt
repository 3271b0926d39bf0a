-- What is written: numbers and lengths in their smallest width, under a context tag. The TLV appendix of the Matter Core Specification,
-- in the widths that write.rs chooses.
use Rattle.std.specs.Prelude.{ℕ, zero, suc, ◌+◌, ◌*◌, ◌/◌, ◌%◌, ◌≤◌, ◌<◌, ◌≡◌, Bool, cond, List, [], ◌∷◌, ◌++◌, ltb, length, get_or}
use Rattle.tlv.specs.Types.{type_count, u8_type, u16_type, u32_type, u64_type, false_type, true_type, context_tagged}
use Rattle.tlv.specs.Elements.{width}

-- the bytes of a number, the lowest first
unfoldable pub low_first : ℕ → ℕ → List ℕ
low_first zero v = []
low_first (suc n) v = (v % 256) ∷ low_first n (v / 256)

-- the type of the smallest unsigned width that holds a number
unfoldable pub smallest : ℕ → ℕ
smallest v = cond (ltb v 256) u8_type (cond (ltb v 65536) u16_type (cond (ltb v 4294967296) u32_type u64_type))

-- the control byte of a type with a context tag, and the tag
abbrev pub context : ℕ → ℕ → List ℕ
context tag kind = (type_count * context_tagged + kind) ∷ tag ∷ []

abbrev pub number_bytes : ℕ → ℕ → List ℕ
number_bytes tag v = context tag (smallest v) ++ low_first (width (smallest v)) v

-- the types of octet strings stand 12 above those of their lengths
abbrev pub octets_bytes : ℕ → List ℕ → List ℕ
octets_bytes tag bytes = context tag (smallest (length bytes) + 12) ++ (low_first (width (smallest (length bytes))) (length bytes) ++ bytes)

abbrev pub bool_bytes : ℕ → Bool → List ℕ
bool_bytes tag flag = context tag (cond flag true_type false_type)

-- how many bytes they take
abbrev pub number_size : ℕ → ℕ
number_size v = 2 + width (smallest v)

abbrev pub octets_size : ℕ → ℕ
octets_size n = 2 + width (smallest n) + n

-- some bytes hold others from a position on
pub record Holds (bytes : List ℕ) (at : ℕ) (held : List ℕ) : Type 0 where
  pub room : at + length held ≤ length bytes
  pub same : (i : ℕ) → i < length held → get_or bytes (at + i) 0 ≡ get_or held i 0
