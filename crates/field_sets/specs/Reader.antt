-- The extension field sets in field bytes, and the reader that yields them: document 02, Q-2. Document 01's layout ("Forms that change first"):
-- sets, "then 0x18", which is the bytes' own end; "no field bytes means no pairs". Depth and pairs are in `Pairs` and `Sets`.
use Rattle.std.specs.Prelude.{ℕ, zero, suc, ◌+◌, ◌-◌, ◌*◌, ◌^◌, ◌≡◌, Bool, false, cond, eqb, length, Option, Some, None, option_map}
use mathlib.Core.List.{List, [], ◌∷◌, map, flat_map}
use Rattle.tlv.specs.Passing.{reading}
use Rattle.field_sets.specs.declared.reader.Cursor.{Cursor}
use Rattle.field_sets.specs.declared.reader.Item.{Item}
use Rattle.field_sets.specs.declared.reader.Item.TheVariants.{Cluster, Attribute, Done, Refused}
use Rattle.field_sets.specs.Pairs.{pair_at}
use Rattle.field_sets.specs.Sets.{next_set, setting}

-- ---- the sets in field bytes

-- a cluster number with its attribute numbers, in order
pub record ExtensionFieldSet : Type 0 where
  pub cluster : ℕ
  pub attributes : List ℕ

abbrev pub field_set : ℕ → List ℕ → ExtensionFieldSet
field_set cluster attributes = record { cluster = cluster; attributes = attributes }

-- the attribute numbers of so many pairs from a position on
unfoldable pub attributes_from : List ℕ → ℕ → ℕ → List ℕ
attributes_from bytes zero at = []
attributes_from bytes (suc n) at = reading (pair_at bytes at) [] λ p. p.attribute ∷ attributes_from bytes n p.next

-- the sets from a position up to the list's end; each has a byte at least, so one more than there are bytes is enough of them
unfoldable pub sets : List ℕ → ℕ → ℕ → Option (List ExtensionFieldSet)
sets bytes zero at = None
sets bytes (suc n) at =
    setting (next_set bytes at) (Some []) None λ s.
    option_map (λ ss. field_set s.cluster (attributes_from bytes s.count s.first) ∷ ss) (sets bytes n s.next)

abbrev pub sets_from : List ℕ → ℕ → Option (List ExtensionFieldSet)
sets_from bytes at = sets bytes (suc (length bytes)) at

-- the sets in field bytes, or nothing where the bytes are no list of sets
abbrev pub sets_in : List ℕ → Option (List ExtensionFieldSet)
sets_in bytes = sets_from bytes 0

-- ---- the pairs of sets

-- a cluster number and an attribute number, both below 2^32, as one word
abbrev pub pair_word : ℕ → ℕ → ℕ
pair_word cluster attribute = cluster * 2 ^ 32 + attribute

-- the pairs in order
unfoldable pub pairs_of : List ExtensionFieldSet → List ℕ
pairs_of ss = flat_map (λ s. map (pair_word s.cluster) s.attributes) ss

-- how many there are
abbrev pub total_of : Option (List ExtensionFieldSet) → Option ℕ
total_of None = None
total_of (Some ss) = Some (length (pairs_of ss))

-- the bytes are a list of sets with so many pairs
abbrev pub holds_pairs : ℕ → Option (List ExtensionFieldSet) → Bool
holds_pairs n None = false
holds_pairs n (Some ss) = eqb (length (pairs_of ss)) n

-- ---- the reader

-- where the reader stands: `left` pairs are to come of the set that was yielded last, the next at `pair`; behind them the next set at `set`
abbrev pub cursor_of : ℕ → ℕ → ℕ → Cursor
cursor_of pair left set = record { pair = pair; left = left; set = set }

-- before the first set
abbrev pub start : Cursor
start = cursor_of 0 0 0

-- the next pair of the set that was yielded last
abbrev pub pair_at_cursor : List ℕ → Cursor → Item
pair_at_cursor bytes c = reading (pair_at bytes c.pair) Refused λ p. Attribute p.attribute (cursor_of p.next (c.left - 1) c.set)

-- the next set, or the end of the list
abbrev pub set_at_cursor : List ℕ → Cursor → Item
set_at_cursor bytes c = setting (next_set bytes c.set) Done Refused λ s. Cluster s.cluster (cursor_of s.first s.count s.next)

-- what the reader yields at a cursor
unfoldable pub next_item : List ℕ → Cursor → Item
next_item bytes c = cond (eqb c.left 0) (set_at_cursor bytes c) (pair_at_cursor bytes c)

-- ---- all that it yields

-- a cluster, or an attribute of the last one
pub data Yield : Type 0 where
  cluster : ℕ → Yield
  attribute : ℕ → Yield

abbrev pub items : ExtensionFieldSet → List Yield
items s = cluster s.cluster ∷ map attribute s.attributes

abbrev pub items_of : Option (List ExtensionFieldSet) → Option (List Yield)
items_of r = option_map (flat_map items) r

abbrev pub yielded : Yield → Option (List Yield) → Option (List Yield)
yielded y r = option_map (λ ys. y ∷ ys) r

-- a walk from a cursor to its end: all that is yielded, or nothing where the bytes are refused on the way
pub data Walk (bytes : List ℕ) : Cursor → Option (List Yield) → Type 0 where
  done : (c : Cursor) → next_item bytes c ≡ Done → Walk bytes c (Some [])
  refused : (c : Cursor) → next_item bytes c ≡ Refused → Walk bytes c None
  at_cluster : (c d : Cursor) (v : ℕ) (r : Option (List Yield)) → next_item bytes c ≡ Cluster v d → Walk bytes d r → Walk bytes c (yielded (cluster v) r)
  at_attribute : (c d : Cursor) (v : ℕ) (r : Option (List Yield)) → next_item bytes c ≡ Attribute v d → Walk bytes d r → Walk bytes c (yielded (attribute v) r)

-- the reader yields the sets of the bytes and their pairs, in order, and then says that it is done; or it refuses them
abbrev pub Yields : Type 0
Yields = (bytes : List ℕ) → Walk bytes start (items_of (sets_in bytes))
