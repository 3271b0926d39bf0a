-- What `from_tlv` of ScenesStateInner makes of any bytes, for a size N: the entries and the record words of a table, in order, or nothing.
-- Document 02, Q-1. What it never looks at is accepted: the tag of the structure and of array members, other members, a second member
-- with a tag, what stands behind the second array, and a missing end where the bytes end.
use Rattle.tlv.specs.Passing.{reading}
use Rattle.std.specs.Prelude.{ℕ, zero, suc, cond, List, [], ◌∷◌, leb, length, Option, Some, None}
use Rattle.slots.specs.Slots.{SceneEntry}
use Rattle.tlv.specs.Types.{struct_type, array_type}
use Rattle.tlv.specs.Values.{inside_at}
use Rattle.tlv.specs.Members.{member_at, stepping, found_from}
use Rattle.image_reader.specs.declared.Arrays.{Arrays}
use Rattle.image_reader.specs.Entries.{searching, entry_at, entry_in, record_at}

-- ---- arrays

-- what was read in front of what follows, if both could be read
abbrev pub prepended : {A : Type 0} → Option A → Option (List A) → Option (List A)
prepended None xs = None
prepended (Some x) None = None
prepended (Some x) (Some xs) = Some (x ∷ xs)

-- what the members of an array are read as, from the first one on, or nothing if one cannot be read. Each member has a byte at least, so one
-- more than there are bytes is enough of them
unfoldable pub members_read : {A : Type 0} → (ℕ → Option A) → List ℕ → ℕ → ℕ → Option (List A)
members_read read bytes zero at = Some []
members_read read bytes (suc n) at =
    stepping (member_at bytes at) (Some []) None λ e next. prepended (read at) (members_read read bytes n next)

abbrev pub members_from : {A : Type 0} → (ℕ → Option A) → List ℕ → ℕ → Option (List A)
members_from read bytes at = members_read read bytes (suc (length bytes)) at

-- the entries of an array, and the record words
abbrev pub entries_from : List ℕ → ℕ → Option (List SceneEntry)
entries_from bytes at = members_from (λ i. entry_in bytes (entry_at bytes i)) bytes at

abbrev pub records_from : List ℕ → ℕ → Option (List ℕ)
records_from bytes at = members_from (record_at bytes) bytes at

-- the first member of the array under a tag
unfoldable pub array_under : ℕ → List ℕ → ℕ → Option ℕ
array_under tag bytes from = searching (found_from tag bytes from) None (inside_at array_type bytes)

-- no more than so many
abbrev pub at_most : {A : Type 0} → ℕ → Option (List A) → Option (List A)
at_most most None = None
at_most most (Some xs) = cond (leb (length xs) most) (Some xs) None

-- ---- the image

pub record Image : Type 0 where
  pub entries : List SceneEntry
  pub records : List ℕ

abbrev pub joined : Option (List SceneEntry) → Option (List ℕ) → Option Image
joined None rs = None
joined (Some es) None = None
joined (Some es) (Some rs) = Some (record { entries = es; records = rs })

-- where the members of both arrays start: the one under tag 0 and the one under tag 1 of a structure
abbrev pub arrays_of : ℕ → ℕ → Arrays
arrays_of entries records = record { entries = entries; records = records }

unfoldable pub arrays_in : List ℕ → Option Arrays
arrays_in bytes =
    reading (inside_at struct_type bytes 0) None λ from.
    reading (array_under 0 bytes from) None λ entries.
    reading (array_under 1 bytes from) None λ records. Some (arrays_of entries records)

-- the entries stand in the first array, the records in the second, at most N of each
unfoldable pub image_in : ℕ → List ℕ → Option Image
image_in size bytes =
    reading (arrays_in bytes) None λ a. joined (at_most size (entries_from bytes a.entries)) (at_most size (records_from bytes a.records))
