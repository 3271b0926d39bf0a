-- What an element says: document 02, Q-1; the TLV appendix of the Matter Core Specification, on the values of integers, booleans, octet strings
-- and containers. As `u8`, `u16`, `u32`, `u64`, `bool`, `str`, `structure`, `array` and `list` of read.rs take it: a number may be written in
-- any width up to the one that is asked for; signed numbers are not unsigned ones; text is no octet string. None of them looks at the tag.
-- Only a whole element says anything: `bool` of read.rs does not see that a tag is cut off, but a member that was found is whole.
use Rattle.std.specs.Prelude.{ℕ, Bool, cond, true, false, ◌&&◌, List, eqb, ltb, leb, Option, Some, None}
use Rattle.tlv.specs.declared.values.Span.{Span}
use Rattle.tlv.specs.Types.{s64_type, false_type, true_type, utf64l_type, null_type}
use Rattle.tlv.specs.Elements.{width, little, element_at}
use Rattle.tlv.specs.Passing.{reading}

-- the unsigned types, between the signed ones and false, up to `most`: with `u8_type` what `u8` takes, with `u16_type` what `u16` takes, and so on
unfoldable pub unsigned : ℕ → ℕ → Bool
unsigned most kind = ltb s64_type kind && (leb kind most && ltb kind false_type)

-- an unsigned number
unfoldable pub number_at : ℕ → List ℕ → ℕ → Option ℕ
number_at most bytes at =
    reading (element_at bytes at) None λ h. cond (unsigned most h.kind) (Some (little (width h.kind) bytes h.value)) None

-- a boolean
unfoldable pub bool_at : List ℕ → ℕ → Option Bool
bool_at bytes at =
    reading (element_at bytes at) None λ h. cond (eqb h.kind false_type) (Some false) (cond (eqb h.kind true_type) (Some true) None)

-- the types of octet strings, between text and null
unfoldable pub octets : ℕ → Bool
octets kind = ltb utf64l_type kind && ltb kind null_type

-- the positions from one on and below another
abbrev pub span : ℕ → ℕ → Span
span from to = record { from = from; to = to }

-- where an octet string stands
unfoldable pub octets_at : List ℕ → ℕ → Option Span
octets_at bytes at = reading (element_at bytes at) None λ h. cond (octets h.kind) (Some (span h.value h.next)) None

-- the position of the first member of a container of a type: a structure, an array or a list
unfoldable pub inside_at : ℕ → List ℕ → ℕ → Option ℕ
inside_at kind bytes at = reading (element_at bytes at) None λ h. cond (eqb h.kind kind) (Some h.next) None
