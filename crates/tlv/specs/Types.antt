-- The numbers in a control octet: document 02, Q-1; the TLV appendix of the Matter Core Specification, on the element type field and the tag
-- control field. The code has them as constants of a type, under the names of the Rust's enums `TLVValueType` and `TLVTagType` (lib.rs
-- of rs-matter-tlv), which name the same numbers: 25 to 31 are no types.
use Rattle.std.specs.Prelude.{ℕ}

-- ---- the control octet: the type is its low five bits, the tag control its high three

abbrev pub type_count : ℕ
type_count = 32

-- one, two, four or eight octets: the low two bits of the types of numbers, and of strings for their lengths
abbrev pub width_count : ℕ
width_count = 4

-- ---- element types

-- signed numbers of one, two, four and eight octets
abbrev pub s8_type : ℕ
s8_type = 0

abbrev pub s16_type : ℕ
s16_type = 1

abbrev pub s32_type : ℕ
s32_type = 2

abbrev pub s64_type : ℕ
s64_type = 3

-- unsigned numbers of one, two, four and eight octets
abbrev pub u8_type : ℕ
u8_type = 4

abbrev pub u16_type : ℕ
u16_type = 5

abbrev pub u32_type : ℕ
u32_type = 6

abbrev pub u64_type : ℕ
u64_type = 7

abbrev pub false_type : ℕ
false_type = 8

abbrev pub true_type : ℕ
true_type = 9

-- floating point numbers of four and eight octets
abbrev pub f32_type : ℕ
f32_type = 10

abbrev pub f64_type : ℕ
f64_type = 11

-- text, and octet strings, with a length of one, two, four and eight octets
abbrev pub utf8l_type : ℕ
utf8l_type = 12

abbrev pub utf16l_type : ℕ
utf16l_type = 13

abbrev pub utf32l_type : ℕ
utf32l_type = 14

abbrev pub utf64l_type : ℕ
utf64l_type = 15

abbrev pub str8l_type : ℕ
str8l_type = 16

abbrev pub str16l_type : ℕ
str16l_type = 17

abbrev pub str32l_type : ℕ
str32l_type = 18

abbrev pub str64l_type : ℕ
str64l_type = 19

abbrev pub null_type : ℕ
null_type = 20

-- containers, and the end of one
abbrev pub struct_type : ℕ
struct_type = 21

abbrev pub array_type : ℕ
array_type = 22

abbrev pub list_type : ℕ
list_type = 23

abbrev pub end_type : ℕ
end_type = 24

-- ---- tag controls

abbrev pub anonymous : ℕ
anonymous = 0

-- a tag of one octet, whose number the container gives a meaning
abbrev pub context_tagged : ℕ
context_tagged = 1

-- tags of the common profile, of the implicit profile, and fully qualified ones, by the bits of their octets
abbrev pub common_tagged16 : ℕ
common_tagged16 = 2

abbrev pub common_tagged32 : ℕ
common_tagged32 = 3

abbrev pub implicit_tagged16 : ℕ
implicit_tagged16 = 4

abbrev pub implicit_tagged32 : ℕ
implicit_tagged32 = 5

abbrev pub fully_tagged48 : ℕ
fully_tagged48 = 6

abbrev pub fully_tagged64 : ℕ
fully_tagged64 = 7
