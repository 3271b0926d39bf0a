-- What the definitions are to make of given bytes: document 02, Q-1; the worked encodings of the TLV appendix of the Matter Core Specification,
-- as one table, with bytes that are refused. A row has the elements in the bytes in order, ends of containers among them, up to the first
-- that cannot be read; and the position behind all of the first one, as it is passed over.
use Rattle.std.specs.Prelude.{ℕ, zero, suc, ◌-◌, Bool, true, false, cond, List, [], ◌∷◌, ◌++◌, map, leb, length, take, drop, Option, Some, None}
use Rattle.tlv.specs.declared.elements.Element.{Element}
use Rattle.tlv.specs.declared.values.Span.{Span}
use Rattle.tlv.specs.Types.{s8_type, s16_type, s32_type, s64_type, u8_type, u16_type, u32_type, u64_type, false_type, true_type, f32_type, f64_type}
use Rattle.tlv.specs.Types.{utf8l_type, str8l_type, str16l_type, null_type, struct_type, array_type, list_type, end_type}
use Rattle.tlv.specs.Types.{anonymous, context_tagged, common_tagged16, common_tagged32, implicit_tagged16, implicit_tagged32}
use Rattle.tlv.specs.Types.{fully_tagged48, fully_tagged64}
use Rattle.tlv.specs.Elements.{element_at}
use Rattle.tlv.specs.Passing.{reading, passed_at}
use Rattle.tlv.specs.Values.{number_at, bool_at, octets_at}

-- ---- rows

-- what an element says to the readers that there are: an unsigned number, a boolean, an octet string, or nothing
pub data Said : Type 0 where
  number : ℕ → Said
  flag : Bool → Said
  octets : List ℕ → Said
  nothing : Said

-- an element: its type, tag control and context tag's number; its value's position and size, and the position behind; what it says
pub data Seen : Type 0 where
  it : (kind form tag value size next : ℕ) → Said → Seen
  refused : Seen

pub record Row : Type 0 where
  pub bytes : List ℕ
  pub elements : List Seen
  pub behind : Option ℕ

abbrev pub row : List ℕ → List Seen → Option ℕ → Row
row bytes elements behind = record { bytes = bytes; elements = elements; behind = behind }

-- ---- what the definitions make of bytes

abbrev pub said_by : List ℕ → Option ℕ → Option Bool → Option Span → Said
said_by bytes (Some v) b o = number v
said_by bytes None (Some b) o = flag b
said_by bytes None None (Some s) = octets (take (s.to - s.from) (drop s.from bytes))
said_by bytes None None None = nothing

abbrev pub said_at : List ℕ → ℕ → Said
said_at bytes at = said_by bytes (number_at u64_type bytes at) (bool_at bytes at) (octets_at bytes at)

abbrev pub seen : List ℕ → ℕ → Element → Seen
seen bytes at h = it h.kind h.form h.tag h.value (h.next - h.value) h.next (said_at bytes at)

-- the elements from a position on; the first argument bounds how many
abbrev pub elements_from : ℕ → List ℕ → ℕ → List Seen
elements_from zero bytes at = []
elements_from (suc n) bytes at =
    cond (leb (length bytes) at) []
    (reading (element_at bytes at) (refused ∷ []) λ h. seen bytes at h ∷ elements_from n bytes h.next)

abbrev pub row_of : List ℕ → Row
row_of bytes = row bytes (elements_from (length bytes) bytes 0) (passed_at bytes 0)

-- every row is what the definitions make of its bytes
abbrev pub computed : List Row → List Row
computed rs = map (λ r. row_of r.bytes) rs

-- ---- the worked encodings

-- an end up to a position
abbrev pub end_to : ℕ → Seen
end_to next = it end_type anonymous 0 next 0 next nothing

-- a signed number of one octet without a tag, up to a position
abbrev pub signed_to : ℕ → Seen
signed_to next = it s8_type anonymous 0 (next - 1) 1 next nothing

-- false, true and null
abbrev pub constants : List Row
constants =
    row (0x08 ∷ []) (it false_type anonymous 0 1 0 1 (flag false) ∷ []) (Some 1)
    ∷ row (0x09 ∷ []) (it true_type anonymous 0 1 0 1 (flag true) ∷ []) (Some 1)
    ∷ row (0x14 ∷ []) (it null_type anonymous 0 1 0 1 nothing ∷ []) (Some 1)
    ∷ []

-- 42 and -17 signed; 42 unsigned; 42 in two octets, -170000 in four, 40000000000 in eight, all signed; floats 0.0 and 17.9
abbrev pub numbers : List Row
numbers =
    row (0x00 ∷ 0x2A ∷ []) (it s8_type anonymous 0 1 1 2 nothing ∷ []) (Some 2)
    ∷ row (0x00 ∷ 0xEF ∷ []) (it s8_type anonymous 0 1 1 2 nothing ∷ []) (Some 2)
    ∷ row (0x04 ∷ 0x2A ∷ []) (it u8_type anonymous 0 1 1 2 (number 42) ∷ []) (Some 2)
    ∷ row (0x01 ∷ 0x2A ∷ 0x00 ∷ []) (it s16_type anonymous 0 1 2 3 nothing ∷ []) (Some 3)
    ∷ row (0x02 ∷ 0xF0 ∷ 0x67 ∷ 0xFD ∷ 0xFF ∷ []) (it s32_type anonymous 0 1 4 5 nothing ∷ []) (Some 5)
    ∷ row (0x03 ∷ 0x00 ∷ 0x90 ∷ 0x2F ∷ 0x50 ∷ 0x09 ∷ 0x00 ∷ 0x00 ∷ 0x00 ∷ []) (it s64_type anonymous 0 1 8 9 nothing ∷ []) (Some 9)
    ∷ row (0x05 ∷ 0x10 ∷ 0x27 ∷ []) (it u16_type anonymous 0 1 2 3 (number 10000) ∷ []) (Some 3)
    ∷ row (0x06 ∷ 0xA0 ∷ 0x86 ∷ 0x01 ∷ 0x00 ∷ []) (it u32_type anonymous 0 1 4 5 (number 100000) ∷ []) (Some 5)
    ∷ row (0x07 ∷ 0x00 ∷ 0x90 ∷ 0x2F ∷ 0x50 ∷ 0x09 ∷ 0x00 ∷ 0x00 ∷ 0x00 ∷ []) (it u64_type anonymous 0 1 8 9 (number 40000000000) ∷ []) (Some 9)
    ∷ row (0x0A ∷ 0x00 ∷ 0x00 ∷ 0x00 ∷ 0x00 ∷ []) (it f32_type anonymous 0 1 4 5 nothing ∷ []) (Some 5)
    ∷ row (0x0B ∷ 0x66 ∷ 0x66 ∷ 0x66 ∷ 0x66 ∷ 0x66 ∷ 0xE6 ∷ 0x31 ∷ 0x40 ∷ []) (it f64_type anonymous 0 1 8 9 nothing ∷ []) (Some 9)
    ∷ []

-- text "Hello!" and "Tschüs", and an octet string, with a length of one octet and of two
abbrev pub strings : List Row
strings =
    row (0x0C ∷ 0x06 ∷ 0x48 ∷ 0x65 ∷ 0x6C ∷ 0x6C ∷ 0x6F ∷ 0x21 ∷ []) (it utf8l_type anonymous 0 2 6 8 nothing ∷ []) (Some 8)
    ∷ row (0x0C ∷ 0x07 ∷ 0x54 ∷ 0x73 ∷ 0x63 ∷ 0x68 ∷ 0xC3 ∷ 0xBC ∷ 0x73 ∷ []) (it utf8l_type anonymous 0 2 7 9 nothing ∷ []) (Some 9)
    ∷ row (0x10 ∷ 0x05 ∷ 0x00 ∷ 0x01 ∷ 0x02 ∷ 0x03 ∷ 0x04 ∷ []) (it str8l_type anonymous 0 2 5 7 (octets (0 ∷ 1 ∷ 2 ∷ 3 ∷ 4 ∷ [])) ∷ []) (Some 7)
    ∷ row (0x11 ∷ 0x02 ∷ 0x00 ∷ 0x01 ∷ 0x02 ∷ []) (it str16l_type anonymous 0 3 2 5 (octets (1 ∷ 2 ∷ [])) ∷ []) (Some 5)
    ∷ []

-- an empty structure, array and list
abbrev pub empties : List Row
empties =
    row (0x15 ∷ 0x18 ∷ []) (it struct_type anonymous 0 1 0 1 nothing ∷ end_to 2 ∷ []) (Some 2)
    ∷ row (0x16 ∷ 0x18 ∷ []) (it array_type anonymous 0 1 0 1 nothing ∷ end_to 2 ∷ []) (Some 2)
    ∷ row (0x17 ∷ 0x18 ∷ []) (it list_type anonymous 0 1 0 1 nothing ∷ end_to 2 ∷ []) (Some 2)
    ∷ []

-- a structure of 42 under tag 0 and -17 under tag 1; an array of 0 to 4; a list of 1, 42 under tag 0, 2, 3, -17 under tag 0; an array of 42,
-- -170000, an empty structure, 17.9 and "Hello!"
abbrev pub containers : List Row
containers =
    row
    (0x15 ∷ 0x20 ∷ 0x00 ∷ 0x2A ∷ 0x20 ∷ 0x01 ∷ 0xEF ∷ 0x18 ∷ [])
    (it struct_type anonymous 0 1 0 1 nothing
    ∷ it s8_type context_tagged 0 3 1 4 nothing
    ∷ it s8_type context_tagged 1 6 1 7 nothing
    ∷ end_to 8
    ∷ [])
    (Some 8)
    ∷ row
    (0x16 ∷ 0x00 ∷ 0x00 ∷ 0x00 ∷ 0x01 ∷ 0x00 ∷ 0x02 ∷ 0x00 ∷ 0x03 ∷ 0x00 ∷ 0x04 ∷ 0x18 ∷ [])
    (it array_type anonymous 0 1 0 1 nothing ∷ signed_to 3 ∷ signed_to 5 ∷ signed_to 7 ∷ signed_to 9 ∷ signed_to 11 ∷ end_to 12 ∷ [])
    (Some 12)
    ∷ row
    (0x17 ∷ 0x00 ∷ 0x01 ∷ 0x20 ∷ 0x00 ∷ 0x2A ∷ 0x00 ∷ 0x02 ∷ 0x00 ∷ 0x03 ∷ 0x20 ∷ 0x00 ∷ 0xEF ∷ 0x18 ∷ [])
    (it list_type anonymous 0 1 0 1 nothing
    ∷ signed_to 3
    ∷ it s8_type context_tagged 0 5 1 6 nothing
    ∷ signed_to 8
    ∷ signed_to 10
    ∷ it s8_type context_tagged 0 12 1 13 nothing
    ∷ end_to 14
    ∷ [])
    (Some 14)
    ∷ row
    (0x16 ∷ 0x00 ∷ 0x2A ∷ 0x02 ∷ 0xF0 ∷ 0x67 ∷ 0xFD ∷ 0xFF ∷ 0x15 ∷ 0x18 ∷ 0x0A ∷ 0x33 ∷ 0x33 ∷ 0x8F ∷ 0x41
    ∷ 0x0C ∷ 0x06 ∷ 0x48 ∷ 0x65 ∷ 0x6C ∷ 0x6C ∷ 0x6F ∷ 0x21 ∷ 0x18 ∷ [])
    (it array_type anonymous 0 1 0 1 nothing
    ∷ signed_to 3
    ∷ it s32_type anonymous 0 4 4 8 nothing
    ∷ it struct_type anonymous 0 9 0 9 nothing
    ∷ end_to 10
    ∷ it f32_type anonymous 0 11 4 15 nothing
    ∷ it utf8l_type anonymous 0 17 6 23 nothing
    ∷ end_to 24
    ∷ [])
    (Some 24)
    ∷ []

-- 42 under a context tag, under tags of the common profile and of the implicit one, and under fully qualified tags; a structure and its member
abbrev pub tags : List Row
tags =
    row (0x24 ∷ 0x01 ∷ 0x2A ∷ []) (it u8_type context_tagged 1 2 1 3 (number 42) ∷ []) (Some 3)
    ∷ row (0x44 ∷ 0x01 ∷ 0x00 ∷ 0x2A ∷ []) (it u8_type common_tagged16 0 3 1 4 (number 42) ∷ []) (Some 4)
    ∷ row (0x64 ∷ 0xA0 ∷ 0x86 ∷ 0x01 ∷ 0x00 ∷ 0x2A ∷ []) (it u8_type common_tagged32 0 5 1 6 (number 42) ∷ []) (Some 6)
    ∷ row (0x84 ∷ 0x01 ∷ 0x00 ∷ 0x2A ∷ []) (it u8_type implicit_tagged16 0 3 1 4 (number 42) ∷ []) (Some 4)
    ∷ row (0xA4 ∷ 0xA0 ∷ 0x86 ∷ 0x01 ∷ 0x00 ∷ 0x2A ∷ []) (it u8_type implicit_tagged32 0 5 1 6 (number 42) ∷ []) (Some 6)
    ∷ row (0xC4 ∷ 0xF1 ∷ 0xFF ∷ 0xED ∷ 0xDE ∷ 0x01 ∷ 0x00 ∷ 0x2A ∷ []) (it u8_type fully_tagged48 0 7 1 8 (number 42) ∷ []) (Some 8)
    ∷ row
    (0xE4 ∷ 0xF1 ∷ 0xFF ∷ 0xED ∷ 0xDE ∷ 0xED ∷ 0xFE ∷ 0x55 ∷ 0xAA ∷ 0x2A ∷ [])
    (it u8_type fully_tagged64 0 9 1 10 (number 42) ∷ [])
    (Some 10)
    ∷ row
    (0xD5 ∷ 0xF1 ∷ 0xFF ∷ 0xED ∷ 0xDE ∷ 0x01 ∷ 0x00 ∷ 0xC4 ∷ 0xF1 ∷ 0xFF ∷ 0xED ∷ 0xDE ∷ 0xAA ∷ 0x00 ∷ 0x2A ∷ 0x18 ∷ [])
    (it struct_type fully_tagged48 0 7 0 7 nothing ∷ it u8_type fully_tagged48 0 14 1 15 (number 42) ∷ end_to 16 ∷ [])
    (Some 16)
    ∷ []

-- ---- what is refused

-- an end with a tag, alone and in a structure; types 25 and 31; a length that the bytes end within, one that they fall short of, one near
-- 2^64; a tag and a number that are cut off; a structure that is not closed
abbrev pub refusals : List Row
refusals =
    row (0x38 ∷ 0x00 ∷ []) (refused ∷ []) None
    ∷ row (0x15 ∷ 0x38 ∷ 0x00 ∷ []) (it struct_type anonymous 0 1 0 1 nothing ∷ refused ∷ []) None
    ∷ row (0x19 ∷ []) (refused ∷ []) None
    ∷ row (0x1F ∷ []) (refused ∷ []) None
    ∷ row (0x11 ∷ 0x00 ∷ []) (refused ∷ []) None
    ∷ row (0x10 ∷ 0x05 ∷ 0x00 ∷ []) (refused ∷ []) None
    ∷ row (0x13 ∷ 0xFF ∷ 0xFF ∷ 0xFF ∷ 0xFF ∷ 0xFF ∷ 0xFF ∷ 0xFF ∷ 0xFF ∷ []) (refused ∷ []) None
    ∷ row (0x24 ∷ []) (refused ∷ []) None
    ∷ row (0x05 ∷ 0x2A ∷ []) (refused ∷ []) None
    ∷ row (0x15 ∷ []) (it struct_type anonymous 0 1 0 1 nothing ∷ []) None
    ∷ []

-- ---- the table

abbrev pub rows : List Row
rows = constants ++ (numbers ++ (strings ++ (empties ++ (containers ++ (tags ++ refusals)))))
