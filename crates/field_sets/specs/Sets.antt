-- An extension field set: document 02, Q-2, by document 01's layout ("Forms that change first"): "anonymous structures, cluster number under
-- context tag 0 and array of pairs under tag 1 [..] Each of these tags stands once, in any order; the numbers are unsigned below 2^32; other
-- members are skipped." The Rust's names are `ExtensionFieldSetStruct`, `cluster_id` and `attribute_value_list`.
use Rattle.std.specs.Prelude.{ℕ, cond, List, eqb, length, Option, Some, None}
use Rattle.tlv.specs.declared.elements.Element.{Element}
use Rattle.tlv.specs.Types.{array_type, end_type}
use Rattle.tlv.specs.Elements.{element_at}
use Rattle.tlv.specs.Passing.{reading}
use Rattle.tlv.specs.Members.{tagged}
use Rattle.tlv_skip.specs.Containers.{Taken, Known, Refused, onward, taken_from}
use Rattle.tlv_skip.specs.Skipping.{skipped}
use Rattle.field_sets.specs.declared.pairs.Pairs.{Pairs}
use Rattle.field_sets.specs.declared.sets.FieldSet.{FieldSet}
use Rattle.field_sets.specs.declared.sets.NextSet.{NextSet}
use Rattle.field_sets.specs.declared.sets.NextSet.TheVariants.{Set, End, NoSet}
use Rattle.field_sets.specs.Pairs.{max_depth, number_tag, structure_at, number_once, pairs_at}

-- the context tag of the array of pairs
abbrev pub pairs_tag : ℕ
pairs_tag = 1

-- what was read of a set so far
pub record Parts : Type 0 where
  pub cluster : Option ℕ
  pub array : Option Pairs

abbrev pub parts : Option ℕ → Option Pairs → Parts
parts cluster array = record { cluster = cluster; array = array }

-- an array of pairs, unless one was read before
abbrev pub array_once : List ℕ → Element → Option Pairs → Option Pairs
array_once bytes h (Some pairs) = None
array_once bytes h None = cond (eqb h.kind array_type) (pairs_at bytes h.next) None

-- a member of a set: its number, its array, or another that is skipped
unfoldable pub set_member : List ℕ → Parts → ℕ → Element → Taken Parts
set_member bytes so at h =
    cond (tagged number_tag h) (reading (number_once bytes at so.cluster) Refused λ v. Known (parts (Some v) so.array) h.next)
    (cond (tagged pairs_tag h)
    (reading (array_once bytes h so.array) Refused λ pairs. Known (parts so.cluster (Some pairs)) pairs.next)
    (reading (skipped max_depth bytes at) Refused λ next. Known so next))

-- its cluster number, the position of its first pair, how many pairs it has, and the position behind it
abbrev pub set_of : ℕ → ℕ → ℕ → ℕ → FieldSet
set_of cluster first count next = record { cluster = cluster; first = first; count = count; next = next }

-- at its end: both must have been read
abbrev pub whole_set : Option ℕ → Option Pairs → ℕ → Option FieldSet
whole_set cluster array next = reading cluster None λ c. reading array None λ pairs. Some (set_of c pairs.first pairs.count next)

-- the set from its first member on
unfoldable pub set_from : List ℕ → ℕ → Option FieldSet
set_from bytes from =
    onward (taken_from (set_member bytes) bytes (parts None None) from) None λ so next. whole_set so.cluster so.array next

-- the set at a position
unfoldable pub set_at : List ℕ → ℕ → Option FieldSet
set_at bytes at = reading (structure_at bytes at) None (set_from bytes)

-- the set at a position, or the end of the list: 0x18, which is the bytes' own end, or no bytes at all
unfoldable pub next_set : List ℕ → ℕ → NextSet
next_set bytes at =
    cond (eqb (length bytes) 0) End
    (reading (element_at bytes at) NoSet λ h.
    cond (eqb h.kind end_type) (cond (eqb h.next (length bytes)) End NoSet) (reading (set_at bytes at) NoSet Set))

-- goes on with a set, or at the end, or without either
abbrev pub setting : {A : Type 0} → NextSet → A → A → (FieldSet → A) → A
setting (Set s) end none go = go s
setting End end none go = end
setting NoSet end none go = none
