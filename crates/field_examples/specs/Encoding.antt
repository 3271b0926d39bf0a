-- Field bytes that are written, and that they are read back: document 02, Q-2, by document 01's layout ("Forms that change first"). Every number
-- stands in its smallest width, as write.rs of rs-matter-tlv has it. In a pair other numbers may stand behind the attribute number. The plain
-- encoding has none; the Rust's capture (scenes.rs) has one, the value: under tag 1 by `push_u8`, under tag 3 by `push_u16`.
use Rattle.std.specs.Prelude.{ℕ, ◌^◌, ◌≤◌, ◌<◌, ◌≡◌, Some}
use mathlib.Core.List.{List, [], ◌∷◌, ◌++◌, map, flat_map}
use Rattle.tlv.specs.Types.{struct_type, array_type, end_type}
use Rattle.tlv.specs.Encoding.{context, number_bytes}
use Rattle.field_sets.specs.Pairs.{number_tag}
use Rattle.field_sets.specs.Sets.{pairs_tag}
use Rattle.field_sets.specs.Reader.{ExtensionFieldSet, field_set, sets_in}

-- ---- what is written

-- a number under a context tag
pub record Other : Type 0 where
  pub tag : ℕ
  pub value : ℕ

-- a pair: its attribute number, and the numbers behind it
pub record WrittenPair : Type 0 where
  pub attribute : ℕ
  pub others : List Other

pub record WrittenSet : Type 0 where
  pub cluster : ℕ
  pub pairs : List WrittenPair

-- a set with its attribute numbers alone
abbrev pub bare : WrittenSet → ExtensionFieldSet
bare s = field_set s.cluster (map (λ (p : WrittenPair). p.attribute) s.pairs)

-- ---- its bytes

abbrev pub other_bytes : Other → List ℕ
other_bytes o = number_bytes o.tag o.value

abbrev pub pair_bytes : WrittenPair → List ℕ
pair_bytes p = struct_type ∷ (number_bytes number_tag p.attribute ++ (flat_map other_bytes p.others ++ (end_type ∷ [])))

abbrev pub set_bytes : WrittenSet → List ℕ
set_bytes s =
    struct_type
    ∷ (number_bytes number_tag s.cluster ++ (context pairs_tag array_type ++ (flat_map pair_bytes s.pairs ++ (end_type ∷ end_type ∷ []))))

-- the sets, and the end of the list
abbrev pub field_bytes : List WrittenSet → List ℕ
field_bytes ss = flat_map set_bytes ss ++ (end_type ∷ [])

-- ---- numbers that fit

-- what is known of each element of a list
abbrev pub Every : {A : Type 0} → (A → Type 0) → List A → Type 0
Every P [] = Unit {0}
Every P (x ∷ xs) = P x × Every P xs

-- a tag of one byte that is not the attribute number's, and a value of eight bytes at most
pub record SmallOther (o : Other) : Type 0 where
  pub tagged : 1 ≤ o.tag
  pub tag : o.tag < 2 ^ 8
  pub value : o.value < 2 ^ 64

pub record SmallPair (p : WrittenPair) : Type 0 where
  pub attribute : p.attribute < 2 ^ 32
  pub others : Every SmallOther p.others

pub record SmallSet (s : WrittenSet) : Type 0 where
  pub cluster : s.cluster < 2 ^ 32
  pub pairs : Every SmallPair s.pairs

abbrev pub AllSmall : List WrittenSet → Type 0
AllSmall ss = Every SmallSet ss

-- ---- what is written is read back

abbrev pub ReadsBack : Type 0
ReadsBack = (ss : List WrittenSet) → AllSmall ss → sets_in (field_bytes ss) ≡ Some (map bare ss)

-- ---- the same of the plain encoding

abbrev pub plain_pair : ℕ → WrittenPair
plain_pair a = record { attribute = a; others = [] }

abbrev pub plain_set : ExtensionFieldSet → WrittenSet
plain_set s = record { cluster = s.cluster; pairs = map plain_pair s.attributes }

abbrev pub plain_bytes : List ExtensionFieldSet → List ℕ
plain_bytes ss = field_bytes (map plain_set ss)

-- the cluster number and the attribute numbers are below 2^32
pub record SmallNumbers (s : ExtensionFieldSet) : Type 0 where
  pub cluster : s.cluster < 2 ^ 32
  pub attributes : Every (λ (a : ℕ). a < 2 ^ 32) s.attributes

abbrev pub PlainReadsBack : Type 0
PlainReadsBack = (ss : List ExtensionFieldSet) → Every SmallNumbers ss → sets_in (plain_bytes ss) ≡ Some ss
