-- A pair in field bytes, and an array of pairs: document 02, Q-2, by document 01's layout ("Forms that change first"): "a pair is an anonymous
-- structure, attribute number under tag 0. Each of these tags stands once, in any order; the numbers are unsigned below 2^32; other members
-- are skipped." A number may be of any unsigned width. The Rust's name for a pair is `AttributeValuePairStruct`, for the number `attribute_id`.
use Rattle.std.specs.Prelude.{ℕ, ◌+◌, ◌^◌, cond, ◌&&◌, List, eqb, ltb, Option, Some, None}
use Rattle.tlv.specs.declared.elements.Element.{Element}
use Rattle.tlv.specs.Types.{u64_type, struct_type, anonymous}
use Rattle.tlv.specs.Elements.{element_at}
use Rattle.tlv.specs.Passing.{reading}
use Rattle.tlv.specs.Values.{number_at}
use Rattle.tlv.specs.Members.{tagged}
use Rattle.tlv_skip.specs.Containers.{Taken, Known, Refused, onward, taken_from}
use Rattle.tlv_skip.specs.Skipping.{skipped}
use Rattle.field_sets.specs.declared.pairs.Pair.{Pair}
use Rattle.field_sets.specs.declared.pairs.Pairs.{Pairs}

-- ---- what sets and pairs share

-- a value that is skipped may hold containers sixteen deep
abbrev pub max_depth : ℕ
max_depth = 16

-- the context tag of the number: of a set its cluster's, of a pair its attribute's
abbrev pub number_tag : ℕ
number_tag = 0

-- the position of the first member of an anonymous structure
unfoldable pub structure_at : List ℕ → ℕ → Option ℕ
structure_at bytes at =
    reading (element_at bytes at) None λ h. cond (eqb h.kind struct_type && eqb h.form anonymous) (Some h.next) None

-- an unsigned number below 2^32, in any width, unless one was read before
abbrev pub number_once : List ℕ → ℕ → Option ℕ → Option ℕ
number_once bytes at (Some v) = None
number_once bytes at None = reading (number_at u64_type bytes at) None λ v. cond (ltb v (2 ^ 32)) (Some v) None

-- ---- a pair

-- a member of a pair: its number, or another that is skipped
unfoldable pub pair_member : List ℕ → Option ℕ → ℕ → Element → Taken (Option ℕ)
pair_member bytes so at h =
    cond (tagged number_tag h) (reading (number_once bytes at so) Refused λ v. Known (Some v) h.next)
    (reading (skipped max_depth bytes at) Refused λ next. Known so next)

-- an attribute number, and the position behind the pair
abbrev pub whole_pair : ℕ → ℕ → Pair
whole_pair attribute next = record { attribute = attribute; next = next }

-- at its end: its number must have been read
abbrev pub pair_of : Option ℕ → ℕ → Option Pair
pair_of so next = reading so None λ v. Some (whole_pair v next)

-- the pair from its first member on
unfoldable pub pair_from : List ℕ → ℕ → Option Pair
pair_from bytes from = onward (taken_from (pair_member bytes) bytes None from) None pair_of

-- the pair at a position: its attribute number, and the position behind it
unfoldable pub pair_at : List ℕ → ℕ → Option Pair
pair_at bytes at = reading (structure_at bytes at) None (pair_from bytes)

-- ---- an array of pairs

-- a member of the array: one more pair
unfoldable pub pair_counted : List ℕ → ℕ → ℕ → Element → Taken ℕ
pair_counted bytes count at h = reading (pair_at bytes at) Refused λ p. Known (count + 1) p.next

-- the position of the first pair, how many there are, and the position behind the array's end
abbrev pub array_of : ℕ → ℕ → ℕ → Pairs
array_of first count next = record { first = first; count = count; next = next }

-- the pairs from a position up to the array's end
unfoldable pub pairs_at : List ℕ → ℕ → Option Pairs
pairs_at bytes first = onward (taken_from (pair_counted bytes) bytes 0 first) None λ count next. Some (array_of first count next)
