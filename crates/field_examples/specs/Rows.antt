-- Document 02, Q-2: what field bytes are read as, as one table of rows, by document 01's layout ("Forms that change first"): sets up to "0x18",
-- the cluster number under tag 0, the array of pairs under tag 1, the attribute number of a pair under tag 0. Bytes stand in parts with a name.
use Rattle.std.specs.Prelude.{ℕ, ◌+◌, ◌-◌, ◌^◌, ◌≡◌, List, [], ◌∷◌, ◌++◌, map, replicate, Option, Some, None}
use Rattle.tlv_skip.specs.Skipping.{skipped}
use Rattle.field_sets.specs.Pairs.{max_depth}
use Rattle.field_sets.specs.Reader.{ExtensionFieldSet, field_set, sets_in}
use Rattle.field_examples.specs.Encoding.{WrittenSet, field_bytes, plain_bytes}

-- ---- what a row says

pub data Outcome : Type 0 where
  -- the sets in field bytes, or that the bytes are refused
  Sets : Option (List ExtensionFieldSet) → Outcome
  -- the position behind an element that is skipped, or that it is refused
  Behind : Option ℕ → Outcome
  -- field bytes that are written
  Bytes : List ℕ → Outcome

-- what the definitions compute, and what the row says
pub record Row : Type 0 where
  pub computed : Outcome
  pub written : Outcome

-- every row of a group holds, and every row of a table
abbrev pub Hold : List Row → Type 0
Hold rs = map (λ (r : Row). r.computed) rs ≡ map (λ (r : Row). r.written) rs

abbrev pub EveryRow : List (List Row) → Type 0
EveryRow [] = Unit {0}
EveryRow (g ∷ gs) = Hold g × EveryRow gs

-- ---- kinds of rows

abbrev pub reads : List ExtensionFieldSet → List ℕ → Row
reads sets bytes = record { computed = Sets (sets_in bytes); written = Sets (Some sets) }

abbrev pub refuses : List ℕ → Row
refuses bytes = record { computed = Sets (sets_in bytes); written = Sets None }

-- a single set of cluster 6 with these attribute numbers
abbrev pub reads_six : List ℕ → List ℕ → Row
reads_six attributes bytes = reads (field_set 6 attributes ∷ []) bytes

-- the element at the front, skipped as another member is
abbrev pub skips : Option ℕ → List ℕ → Row
skips next bytes = record { computed = Behind (skipped max_depth bytes 0); written = Behind next }

-- these bytes are written
abbrev pub writes : List ℕ → List ℕ → Row
writes computed written = record { computed = Bytes computed; written = Bytes written }

-- ---- parts of field bytes

-- cluster 6 under tag 0; an attribute number under tag 0; a value under tag 1, as the Rust has it for eight bits
abbrev pub cluster : List ℕ
cluster = 0x24 ∷ 0x00 ∷ 0x06 ∷ []

abbrev pub attribute : ℕ → List ℕ
attribute a = 0x24 ∷ 0x00 ∷ a ∷ []

abbrev pub value : List ℕ
value = 0x24 ∷ 0x01 ∷ 0x7F ∷ []

-- a member of a set under a tag that has no meaning there
abbrev pub other : List ℕ
other = 0x24 ∷ 0x02 ∷ 0x7F ∷ []

abbrev pub structure : List ℕ → List ℕ
structure members = 0x15 ∷ members ++ (0x18 ∷ [])

abbrev pub array : List ℕ → List ℕ
array pairs = 0x36 ∷ 0x01 ∷ pairs ++ (0x18 ∷ [])

-- the array of a single pair, of attribute 1
abbrev pub one_pair : List ℕ
one_pair = array (structure (attribute 1))

-- these sets up to the end; a single set with these members; a single set of cluster 6 whose only pair has these members
abbrev pub list : List ℕ → List ℕ
list sets = sets ++ (0x18 ∷ [])

abbrev pub of_set : List ℕ → List ℕ
of_set members = list (structure members)

abbrev pub of_pair : List ℕ → List ℕ
of_pair members = of_set (cluster ++ array (structure members))

-- beside attribute 1 in a pair; beside cluster 6 and its array in a set
abbrev pub in_pair : List ℕ → List ℕ
in_pair member = of_pair (attribute 1 ++ member)

abbrev pub in_set : List ℕ → List ℕ
in_set member = of_set (cluster ++ one_pair ++ member)

-- ---- plain lists

-- a set of cluster 6 with attributes 1 and 2, and one without pairs, byte by byte
abbrev pub two_pairs : List ℕ
two_pairs =
    0x15 ∷ 0x24 ∷ 0x00 ∷ 0x06 ∷ 0x36 ∷ 0x01 ∷ 0x15 ∷ 0x24 ∷ 0x00 ∷ 0x01 ∷ 0x18 ∷ 0x15 ∷ 0x24 ∷ 0x00 ∷ 0x02 ∷ 0x18 ∷ 0x18 ∷ 0x18 ∷ 0x18 ∷ []

abbrev pub no_pairs : List ℕ
no_pairs = 0x15 ∷ 0x24 ∷ 0x00 ∷ 0x06 ∷ 0x36 ∷ 0x01 ∷ 0x18 ∷ 0x18 ∷ 0x18 ∷ []

abbrev pub plain_rows : List Row
plain_rows =
    -- no bytes
    reads [] []
    -- no sets
    ∷ reads [] (0x18 ∷ [])
    -- a set with two pairs, and one without
    ∷ reads_six (1 ∷ 2 ∷ []) two_pairs
    ∷ reads_six [] no_pairs
    -- two sets, in order
    ∷ reads (field_set 6 (1 ∷ []) ∷ field_set 8 (0 ∷ []) ∷ [])
    (list (structure (cluster ++ one_pair) ++ structure ((0x24 ∷ 0x00 ∷ 0x08 ∷ []) ++ array (structure (attribute 0)))))
    -- a cluster twice, and an attribute twice: both are kept
    ∷ reads (field_set 6 (1 ∷ 1 ∷ []) ∷ field_set 6 [] ∷ [])
    (list (structure (cluster ++ array (structure (attribute 1) ++ structure (attribute 1))) ++ structure (cluster ++ array [])))
    -- cluster 0 and attribute 0
    ∷ reads (field_set 0 (0 ∷ []) ∷ []) (of_set ((0x24 ∷ 0x00 ∷ 0x00 ∷ []) ++ array (structure (attribute 0))))
    ∷ []

-- ---- any order, and other members

abbrev pub order_rows : List Row
order_rows =
    -- the array before the number
    reads_six (1 ∷ []) (of_set (one_pair ++ cluster))
    -- other members before, between and behind
    ∷ reads_six (1 ∷ []) (of_set (other ++ cluster ++ other ++ one_pair ++ other))
    -- the attribute number before its value, as the Rust writes it
    ∷ reads_six (1 ∷ []) (of_pair (attribute 1 ++ value))
    -- behind its value
    ∷ reads_six (1 ∷ []) (of_pair (value ++ attribute 1))
    -- between two values, of 8 and of 16 bits
    ∷ reads_six (1 ∷ []) (of_pair (value ++ attribute 1 ++ (0x25 ∷ 0x03 ∷ 0x34 ∷ 0x12 ∷ [])))
    -- a tag that is skipped may repeat
    ∷ reads_six (1 ∷ []) (in_pair (value ++ value))
    ∷ reads_six (1 ∷ []) (in_set (other ++ other))
    ∷ []

-- ---- every type and every kind of tag is skipped

abbrev pub skipped_rows : List Row
skipped_rows =
    -- signed numbers of one, two, four and eight bytes
    reads_six (1 ∷ [])
    (in_pair (0x20 ∷ 0x02 ∷ 0xFF ∷ 0x21 ∷ 0x04 ∷ 0xFF ∷ 0xFF ∷ 0x22 ∷ 0x06 ∷ 0xFF ∷ 0xFF ∷ 0xFF ∷ 0xFF
    ∷ 0x23 ∷ 0x08 ∷ 0xFF ∷ 0xFF ∷ 0xFF ∷ 0xFF ∷ 0xFF ∷ 0xFF ∷ 0xFF ∷ 0xFF ∷ []))
    -- false, true and null
    ∷ reads_six (1 ∷ []) (in_pair (0x28 ∷ 0x01 ∷ 0x29 ∷ 0x01 ∷ 0x34 ∷ 0x01 ∷ []))
    -- floats of four and eight bytes
    ∷ reads_six (1 ∷ [])
    (in_set (0x2A ∷ 0x02 ∷ 0x00 ∷ 0x00 ∷ 0x80 ∷ 0x7F ∷ 0x2B ∷ 0x03 ∷ 0x66 ∷ 0x66 ∷ 0x66 ∷ 0x66 ∷ 0x66 ∷ 0xE6 ∷ 0x31 ∷ 0x40 ∷ []))
    -- octet strings of two ends, with a length of one, two, four and eight bytes
    ∷ reads_six (1 ∷ [])
    (in_set (0x30 ∷ 0x02 ∷ 0x02 ∷ 0x18 ∷ 0x18 ∷ 0x31 ∷ 0x02 ∷ 0x02 ∷ 0x00 ∷ 0x18 ∷ 0x18 ∷ 0x32 ∷ 0x02 ∷ 0x02 ∷ 0x00 ∷ 0x00 ∷ 0x00 ∷ 0x18 ∷ 0x18
    ∷ 0x33 ∷ 0x02 ∷ 0x02 ∷ 0x00 ∷ 0x00 ∷ 0x00 ∷ 0x00 ∷ 0x00 ∷ 0x00 ∷ 0x00 ∷ 0x18 ∷ 0x18 ∷ []))
    -- text, and text that is not UTF-8
    ∷ reads_six (1 ∷ []) (in_pair (0x2C ∷ 0x01 ∷ 0x02 ∷ 0x48 ∷ 0x69 ∷ []))
    ∷ reads_six (1 ∷ []) (in_pair (0x2C ∷ 0x01 ∷ 0x02 ∷ 0xC3 ∷ 0x28 ∷ []))
    -- a structure, an array and a list; their members do not count, whatever their tags
    ∷ reads_six (1 ∷ []) (in_pair (0x35 ∷ 0x01 ∷ attribute 2 ++ attribute 3 ++ (0x18 ∷ [])))
    ∷ reads_six (1 ∷ []) (in_set (0x36 ∷ 0x02 ∷ 0x04 ∷ 0x07 ∷ cluster ++ (0x18 ∷ [])))
    ∷ reads_six (1 ∷ []) (in_set (0x37 ∷ 0x02 ∷ one_pair ++ cluster ++ (0x18 ∷ [])))
    -- a number without a tag, with tags of the common and of the implicit profile, and with fully qualified ones
    ∷ reads_six (1 ∷ [])
    (in_pair (0x04 ∷ 0x07 ∷ 0x44 ∷ 0x01 ∷ 0x00 ∷ 0x07 ∷ 0x64 ∷ 0x01 ∷ 0x00 ∷ 0x00 ∷ 0x00 ∷ 0x07 ∷ 0x84 ∷ 0x01 ∷ 0x00 ∷ 0x07
    ∷ 0xA4 ∷ 0x01 ∷ 0x00 ∷ 0x00 ∷ 0x00 ∷ 0x07 ∷ []))
    ∷ reads_six (1 ∷ [])
    (in_set (0xC4 ∷ 0xF1 ∷ 0xFF ∷ 0x00 ∷ 0x00 ∷ 0x01 ∷ 0x00 ∷ 0x07 ∷ 0xE4 ∷ 0xF1 ∷ 0xFF ∷ 0x00 ∷ 0x00 ∷ 0x01 ∷ 0x00 ∷ 0x00 ∷ 0x00 ∷ 0x07 ∷ []))
    ∷ []

-- ---- numbers in every width, below 2^32

-- a number under tag 0 in two, four and eight bytes, of its lower bytes
abbrev pub in_two : ℕ → ℕ → List ℕ
in_two x y = 0x25 ∷ 0x00 ∷ x ∷ y ∷ []

abbrev pub in_four : ℕ → ℕ → ℕ → ℕ → List ℕ
in_four x y z w = 0x26 ∷ 0x00 ∷ x ∷ y ∷ z ∷ w ∷ []

abbrev pub in_eight : ℕ → ℕ → ℕ → ℕ → ℕ → List ℕ
in_eight x y z w v = 0x27 ∷ 0x00 ∷ x ∷ y ∷ z ∷ w ∷ v ∷ 0x00 ∷ 0x00 ∷ 0x00 ∷ []

abbrev pub width_rows : List Row
width_rows =
    -- cluster 6 in two, four and eight bytes
    reads_six (1 ∷ []) (of_set (in_two 0x06 0x00 ++ one_pair))
    ∷ reads_six (1 ∷ []) (of_set (in_four 0x06 0x00 0x00 0x00 ++ one_pair))
    ∷ reads_six (1 ∷ []) (of_set (in_eight 0x06 0x00 0x00 0x00 0x00 ++ one_pair))
    -- attribute 1 in two, four and eight bytes
    ∷ reads_six (1 ∷ []) (of_pair (in_two 0x01 0x00))
    ∷ reads_six (1 ∷ []) (of_pair (in_four 0x01 0x00 0x00 0x00))
    ∷ reads_six (1 ∷ []) (of_pair (in_eight 0x01 0x00 0x00 0x00 0x00))
    -- the lowest byte first
    ∷ reads (field_set 0x0300 (0x4003 ∷ []) ∷ []) (of_set (in_two 0x00 0x03 ++ array (structure (in_two 0x03 0x40))))
    ∷ reads (field_set 0xFFF1FC01 (1 ∷ []) ∷ []) (of_set (in_four 0x01 0xFC 0xF1 0xFF ++ one_pair))
    ∷ []

-- the largest number that is taken
abbrev pub largest : ℕ
largest = 2 ^ 32 - 1

abbrev pub limit_rows : List Row
limit_rows =
    -- 2^32 - 1, in four bytes and in eight
    reads (field_set largest (1 ∷ []) ∷ []) (of_set (in_four 0xFF 0xFF 0xFF 0xFF ++ one_pair))
    ∷ reads (field_set largest (1 ∷ []) ∷ []) (of_set (in_eight 0xFF 0xFF 0xFF 0xFF 0x00 ++ one_pair))
    ∷ reads_six (largest ∷ []) (of_pair (in_four 0xFF 0xFF 0xFF 0xFF))
    ∷ reads_six (largest ∷ []) (of_pair (in_eight 0xFF 0xFF 0xFF 0xFF 0x00))
    -- a value that is skipped may have all of eight bytes
    ∷ reads_six (1 ∷ []) (in_pair (0x27 ∷ 0x07 ∷ 0xFF ∷ 0xFF ∷ 0xFF ∷ 0xFF ∷ 0xFF ∷ 0xFF ∷ 0xFF ∷ 0xFF ∷ []))
    ∷ []

abbrev pub too_large_rows : List Row
too_large_rows =
    -- 2^32
    refuses (of_set (in_eight 0x00 0x00 0x00 0x00 0x01 ++ one_pair))
    ∷ refuses (of_pair (in_eight 0x00 0x00 0x00 0x00 0x01))
    -- 2^63 + 6, whose low bytes say 6
    ∷ refuses (of_set ((0x27 ∷ 0x00 ∷ 0x06 ∷ 0x00 ∷ 0x00 ∷ 0x00 ∷ 0x00 ∷ 0x00 ∷ 0x00 ∷ 0x80 ∷ []) ++ one_pair))
    ∷ []

-- ---- depth

-- so many containers of a type inside one another, the outermost under tag 2
abbrev pub nested : ℕ → ℕ → List ℕ
nested kind depth = (0x20 + kind) ∷ 0x02 ∷ replicate (depth - 1) kind ++ replicate depth 0x18

-- sixteen containers of all three types, with what is in the innermost
abbrev pub mixed : List ℕ → List ℕ
mixed held =
    (0x35 ∷ 0x01 ∷ 0x16 ∷ 0x17 ∷ 0x15 ∷ 0x16 ∷ 0x17 ∷ 0x15 ∷ 0x16 ∷ 0x17 ∷ 0x15 ∷ 0x16 ∷ 0x17 ∷ 0x15 ∷ 0x16 ∷ 0x17 ∷ 0x15 ∷ [])
    ++ held
    ++ replicate 16 0x18

-- 16 structures pass as a value in a pair and 17 do not; the same of an element by itself
abbrev pub depth_rows : List Row
depth_rows =
    reads_six (1 ∷ []) (in_pair (nested 0x15 16))
    ∷ refuses (in_pair (nested 0x15 17))
    ∷ skips (Some 33) (nested 0x15 16)
    ∷ skips None (nested 0x15 17)
    ∷ []

abbrev pub container_rows : List Row
container_rows =
    -- arrays and lists in a pair
    reads_six (1 ∷ []) (in_pair (nested 0x16 16))
    ∷ reads_six (1 ∷ []) (in_pair (nested 0x17 16))
    ∷ refuses (in_pair (nested 0x16 17))
    ∷ refuses (in_pair (nested 0x17 17))
    -- in front of the attribute number
    ∷ refuses (of_pair (nested 0x15 17 ++ attribute 1))
    -- structures, arrays and lists as another member of a set
    ∷ reads_six (1 ∷ []) (in_set (nested 0x15 16))
    ∷ reads_six (1 ∷ []) (in_set (nested 0x16 16))
    ∷ reads_six (1 ∷ []) (in_set (nested 0x17 16))
    ∷ refuses (in_set (nested 0x15 17))
    ∷ refuses (in_set (nested 0x16 17))
    ∷ refuses (in_set (nested 0x17 17))
    ∷ []

-- what is counted
abbrev pub counted_rows : List Row
counted_rows =
    -- containers of all three types, 16 with a number in the innermost
    reads_six (1 ∷ []) (in_pair (mixed (0x04 ∷ 0x07 ∷ [])))
    -- and with one container more
    ∷ refuses (in_pair (mixed (0x15 ∷ 0x18 ∷ [])))
    ∷ refuses (in_pair (mixed (0x16 ∷ 0x18 ∷ [])))
    ∷ refuses (in_pair (mixed (0x17 ∷ 0x18 ∷ [])))
    -- each value anew: three of 16 in one pair
    ∷ reads_six (1 ∷ []) (of_pair (nested 0x15 16 ++ nested 0x16 16 ++ attribute 1 ++ nested 0x17 16))
    -- two of 15 in one container, and one of 15 with one of 16
    ∷ reads_six (1 ∷ []) (in_pair (0x36 ∷ 0x01 ∷ nested 0x15 15 ++ nested 0x17 15 ++ (0x18 ∷ [])))
    ∷ refuses (in_pair (0x36 ∷ 0x01 ∷ nested 0x15 15 ++ nested 0x17 16 ++ (0x18 ∷ [])))
    ∷ []

-- ---- a number or an array missing, or twice

abbrev pub missing_rows : List Row
missing_rows =
    -- the cluster number
    refuses (of_set one_pair)
    -- the array
    ∷ refuses (of_set cluster)
    -- both
    ∷ refuses (of_set [])
    ∷ refuses (of_set other)
    -- the attribute number
    ∷ refuses (of_pair [])
    ∷ refuses (of_pair value)
    -- in the second set, and in the second pair
    ∷ refuses (list (structure (cluster ++ one_pair) ++ structure one_pair))
    ∷ refuses (of_set (cluster ++ array (structure (attribute 1) ++ structure value)))
    ∷ []

abbrev pub twice_rows : List Row
twice_rows =
    -- the cluster number
    refuses (of_set (cluster ++ cluster ++ one_pair))
    ∷ refuses (of_set (cluster ++ one_pair ++ cluster))
    -- the array
    ∷ refuses (of_set (cluster ++ one_pair ++ one_pair))
    ∷ refuses (of_set (array [] ++ cluster ++ array []))
    -- the attribute number
    ∷ refuses (of_pair (attribute 1 ++ attribute 1))
    ∷ refuses (of_pair (attribute 1 ++ value ++ attribute 2))
    ∷ []

-- ---- one type in the place of another

abbrev pub type_rows : List Row
type_rows =
    -- for the array of pairs: a structure, a list, a number, an octet string
    refuses (of_set (cluster ++ (0x35 ∷ 0x01 ∷ structure (attribute 1) ++ (0x18 ∷ []))))
    ∷ refuses (of_set (cluster ++ (0x37 ∷ 0x01 ∷ structure (attribute 1) ++ (0x18 ∷ []))))
    ∷ refuses (of_set (cluster ++ (0x24 ∷ 0x01 ∷ 0x07 ∷ [])))
    ∷ refuses (of_set (cluster ++ (0x30 ∷ 0x01 ∷ 0x00 ∷ [])))
    -- for a set: a list, an array, a number
    ∷ refuses (list (0x17 ∷ cluster ++ one_pair ++ (0x18 ∷ [])))
    ∷ refuses (list (0x16 ∷ cluster ++ one_pair ++ (0x18 ∷ [])))
    ∷ refuses (list (0x04 ∷ 0x07 ∷ []))
    -- for a pair: a list, an array, a number
    ∷ refuses (of_set (cluster ++ array (0x17 ∷ attribute 1 ++ (0x18 ∷ []))))
    ∷ refuses (of_set (cluster ++ array (0x16 ∷ attribute 1 ++ (0x18 ∷ []))))
    ∷ refuses (of_set (cluster ++ array (0x04 ∷ 0x01 ∷ [])))
    -- for the cluster number: a signed number, true, text, null, a structure
    ∷ refuses (of_set ((0x20 ∷ 0x00 ∷ 0x06 ∷ []) ++ one_pair))
    ∷ refuses (of_set ((0x29 ∷ 0x00 ∷ []) ++ one_pair))
    ∷ refuses (of_set ((0x2C ∷ 0x00 ∷ 0x01 ∷ 0x36 ∷ []) ++ one_pair))
    ∷ refuses (of_set ((0x34 ∷ 0x00 ∷ []) ++ one_pair))
    ∷ refuses (of_set ((0x35 ∷ 0x00 ∷ 0x18 ∷ []) ++ one_pair))
    -- for the attribute number: a signed number, a structure
    ∷ refuses (of_pair (0x20 ∷ 0x00 ∷ 0x01 ∷ []))
    ∷ refuses (of_pair (0x35 ∷ 0x00 ∷ 0x18 ∷ []))
    ∷ []

-- ---- tags

abbrev pub tag_rows : List Row
tag_rows =
    -- a set under a context tag, and under a fully qualified one
    refuses (list (0x35 ∷ 0x00 ∷ cluster ++ one_pair ++ (0x18 ∷ [])))
    ∷ refuses (list (0xF5 ∷ 0xF1 ∷ 0xFF ∷ 0x00 ∷ 0x00 ∷ 0x01 ∷ 0x00 ∷ 0x00 ∷ 0x00 ∷ cluster ++ one_pair ++ (0x18 ∷ [])))
    -- a pair under them
    ∷ refuses (of_set (cluster ++ array (0x35 ∷ 0x00 ∷ attribute 1 ++ (0x18 ∷ []))))
    ∷ refuses (of_set (cluster ++ array (0xF5 ∷ 0xF1 ∷ 0xFF ∷ 0x00 ∷ 0x00 ∷ 0x01 ∷ 0x00 ∷ 0x00 ∷ 0x00 ∷ attribute 1 ++ (0x18 ∷ []))))
    -- a cluster number under tag 0 of the common profile does not count: it is missing, and no second one
    ∷ refuses (of_set ((0x44 ∷ 0x00 ∷ 0x00 ∷ 0x06 ∷ []) ++ one_pair))
    ∷ reads_six (1 ∷ []) (in_set (0x44 ∷ 0x00 ∷ 0x00 ∷ 0x07 ∷ []))
    -- nor an attribute number, nor an array under tag 1 of that profile
    ∷ refuses (of_pair (0x44 ∷ 0x00 ∷ 0x00 ∷ 0x01 ∷ []))
    ∷ reads_six (1 ∷ []) (in_pair (0x44 ∷ 0x00 ∷ 0x00 ∷ 0x02 ∷ []))
    ∷ refuses (of_set (cluster ++ (0x56 ∷ 0x01 ∷ 0x00 ∷ structure (attribute 1) ++ (0x18 ∷ []))))
    ∷ reads_six (1 ∷ []) (in_set (0x56 ∷ 0x01 ∷ 0x00 ∷ 0x18 ∷ []))
    -- nor a number without a tag
    ∷ refuses (of_set ((0x04 ∷ 0x06 ∷ []) ++ one_pair))
    ∷ refuses (of_pair (0x04 ∷ 0x01 ∷ []))
    ∷ []

-- ---- ends

-- bytes behind the end: a byte, an end, a set
abbrev pub behind_rows : List Row
behind_rows =
    refuses (of_set (cluster ++ one_pair) ++ (0x00 ∷ []))
    ∷ refuses (of_set (cluster ++ one_pair) ++ (0x18 ∷ []))
    ∷ refuses (0x18 ∷ of_set (cluster ++ one_pair))
    ∷ []

abbrev pub end_rows : List Row
end_rows =
    -- missing: the end of the list
    refuses (structure (cluster ++ one_pair))
    -- of a set, in front of the end, and in front of another set
    ∷ refuses (list (0x15 ∷ cluster ++ one_pair))
    ∷ refuses (list (0x15 ∷ cluster ++ one_pair ++ structure (cluster ++ one_pair)))
    -- of an array
    ∷ refuses (of_set (cluster ++ (0x36 ∷ 0x01 ∷ structure (attribute 1))))
    -- of a pair
    ∷ refuses (of_set (cluster ++ array (0x15 ∷ attribute 1)))
    -- of a container that is skipped
    ∷ refuses (in_set (0x35 ∷ 0x02 ∷ []))
    ∷ refuses (in_pair (0x36 ∷ 0x02 ∷ []))
    -- there: it ends neither the set nor the list
    ∷ reads_six (1 ∷ []) (of_set ((0x37 ∷ 0x02 ∷ 0x18 ∷ []) ++ cluster ++ one_pair))
    ∷ refuses (0x15 ∷ cluster ++ one_pair ++ (0x35 ∷ 0x02 ∷ 0x18 ∷ []))
    ∷ []

-- an end with a tag: of the context, and of the common profile
abbrev pub tagged_end_rows : List Row
tagged_end_rows =
    -- in the place of the list's end
    refuses (0x38 ∷ 0x00 ∷ [])
    ∷ refuses (structure (cluster ++ one_pair) ++ (0x38 ∷ 0x00 ∷ []))
    ∷ refuses (structure (cluster ++ one_pair) ++ (0x58 ∷ 0x00 ∷ 0x00 ∷ []))
    -- of a set's
    ∷ refuses (list (0x15 ∷ cluster ++ one_pair ++ (0x38 ∷ 0x00 ∷ [])))
    -- of an array's
    ∷ refuses (of_set (cluster ++ (0x36 ∷ 0x01 ∷ structure (attribute 1) ++ (0x38 ∷ 0x01 ∷ []))))
    -- of a pair's
    ∷ refuses (of_set (cluster ++ array (0x15 ∷ attribute 1 ++ (0x38 ∷ 0x00 ∷ []))))
    -- of that of a container that is skipped
    ∷ refuses (in_pair (0x35 ∷ 0x01 ∷ 0x38 ∷ 0x01 ∷ []))
    ∷ refuses (in_set (0x37 ∷ 0x02 ∷ 0x38 ∷ 0x02 ∷ []))
    -- in front of the one that has none
    ∷ refuses (in_pair (0x35 ∷ 0x01 ∷ 0x38 ∷ 0x01 ∷ 0x18 ∷ []))
    ∷ []

-- ---- bytes that are no elements

abbrev pub damaged_rows : List Row
damaged_rows =
    -- the reserved types 25 and 31, skipped in a pair, and in a set
    refuses (in_pair (0x39 ∷ 0x01 ∷ []))
    ∷ refuses (in_pair (0x3F ∷ 0x01 ∷ []))
    ∷ refuses (in_set (0x39 ∷ 0x02 ∷ []))
    ∷ refuses (in_set (0x3F ∷ 0x02 ∷ []))
    -- in a container that is skipped
    ∷ refuses (in_pair (0x36 ∷ 0x01 ∷ 0x19 ∷ 0x18 ∷ []))
    ∷ refuses (in_set (0x36 ∷ 0x02 ∷ 0x1F ∷ 0x18 ∷ []))
    -- in the place of a set, and of a pair
    ∷ refuses (list (0x19 ∷ []))
    ∷ refuses (list (0x1F ∷ []))
    ∷ refuses (of_set (cluster ++ array (0x19 ∷ [])))
    ∷ refuses (of_set (cluster ++ array (0x1F ∷ [])))
    -- a length past the bytes, in a string that is skipped: by one, and by far
    ∷ refuses (in_pair (0x30 ∷ 0x01 ∷ 0x05 ∷ []))
    ∷ refuses (in_set (0x2C ∷ 0x02 ∷ 0x03 ∷ []))
    ∷ refuses (in_pair (0x33 ∷ 0x01 ∷ 0xFF ∷ 0xFF ∷ 0xFF ∷ 0xFF ∷ 0xFF ∷ 0xFF ∷ 0xFF ∷ 0xFF ∷ []))
    -- in a container that is skipped
    ∷ refuses (in_pair (0x35 ∷ 0x01 ∷ 0x30 ∷ 0x01 ∷ 0xFF ∷ 0x18 ∷ []))
    -- a length that takes all ends for its string
    ∷ refuses (in_pair (0x30 ∷ 0x01 ∷ 0x04 ∷ []))
    -- a number, a tag and a length cut off
    ∷ refuses (0x15 ∷ 0x24 ∷ 0x00 ∷ [])
    ∷ refuses (0x15 ∷ 0x24 ∷ [])
    ∷ refuses (0x15 ∷ 0x31 ∷ 0x02 ∷ 0x01 ∷ [])
    -- the head of a set, and of an array
    ∷ refuses (0x15 ∷ [])
    ∷ refuses (0x15 ∷ cluster ++ (0x36 ∷ 0x01 ∷ []))
    ∷ []

-- ---- what is written

-- what the Rust's capture writes: cluster 6 with an attribute of 8 bits, cluster 0x0300 with one of 16 bits
abbrev pub captured : List WrittenSet
captured =
    record { cluster = 6; pairs = record { attribute = 0; others = record { tag = 1; value = 1 } ∷ [] } ∷ [] }
    ∷ record { cluster = 0x0300; pairs = record { attribute = 7; others = record { tag = 3; value = 0x1234 } ∷ [] } ∷ [] }
    ∷ []

abbrev pub captured_bytes : List ℕ
captured_bytes =
    (0x15 ∷ 0x24 ∷ 0x00 ∷ 0x06 ∷ 0x36 ∷ 0x01 ∷ 0x15 ∷ 0x24 ∷ 0x00 ∷ 0x00 ∷ 0x24 ∷ 0x01 ∷ 0x01 ∷ 0x18 ∷ 0x18 ∷ 0x18 ∷ [])
    ++ (0x15 ∷ 0x25 ∷ 0x00 ∷ 0x00 ∷ 0x03 ∷ 0x36 ∷ 0x01 ∷ 0x15 ∷ 0x24 ∷ 0x00 ∷ 0x07 ∷ 0x25 ∷ 0x03 ∷ 0x34 ∷ 0x12 ∷ 0x18 ∷ 0x18 ∷ 0x18 ∷ [])
    ++ (0x18 ∷ [])

abbrev pub written_rows : List Row
written_rows =
    -- no sets
    writes (field_bytes []) (0x18 ∷ [])
    -- the plain encoding of a set with two pairs, and of one without
    ∷ writes (plain_bytes (field_set 6 (1 ∷ 2 ∷ []) ∷ [])) two_pairs
    ∷ writes (plain_bytes (field_set 6 [] ∷ [])) no_pairs
    -- what the Rust's capture writes, and what that is read as
    ∷ writes (field_bytes captured) captured_bytes
    ∷ reads (field_set 6 (0 ∷ []) ∷ field_set 0x0300 (7 ∷ []) ∷ []) captured_bytes
    ∷ []

-- ---- the table

abbrev pub rows : List (List Row)
rows =
    plain_rows
    ∷ order_rows
    ∷ skipped_rows
    ∷ width_rows
    ∷ limit_rows
    ∷ too_large_rows
    ∷ depth_rows
    ∷ container_rows
    ∷ counted_rows
    ∷ missing_rows
    ∷ twice_rows
    ∷ type_rows
    ∷ tag_rows
    ∷ behind_rows
    ∷ end_rows
    ∷ tagged_end_rows
    ∷ damaged_rows
    ∷ written_rows
    ∷ []
