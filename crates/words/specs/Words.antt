-- Key words, record words, and the ranges of key words that belong to a fabric, an endpoint or a group.
-- Document 01, "Forms that change first".
use Rattle.std.specs.Prelude.{ℕ, ◌+◌, ◌*◌, ◌/◌, ◌%◌, ◌^◌, Bool, leb, eqb}
use Rattle.words.specs.declared.SceneKey.{SceneKey}
use Rattle.words.specs.declared.KeyRange.{KeyRange}
use Rattle.words.specs.declared.KeyRange.TheVariants.{Fabric, Endpoint, Group}

-- fabric × 2^40 + endpoint × 2^24 + group × 2^8 + scene
abbrev pub key_of : ℕ → ℕ → ℕ → ℕ → ℕ
key_of fabric endpoint group scene = fabric * 2 ^ 40 + endpoint * 2 ^ 24 + group * 2 ^ 8 + scene

abbrev pub word_of : SceneKey → ℕ
word_of k = key_of k.fabric k.endpoint k.group k.scene

-- the parts of a key word; the fabric is below 256 where the word is below 2^48
abbrev pub fabric_of : ℕ → ℕ
fabric_of key = key / 2 ^ 40

abbrev pub endpoint_of : ℕ → ℕ
endpoint_of key = key / 2 ^ 24 % 2 ^ 16

abbrev pub group_of : ℕ → ℕ
group_of key = key / 2 ^ 8 % 2 ^ 16

abbrev pub scene_of : ℕ → ℕ
scene_of key = key % 2 ^ 8

-- a record word is its key word, plus 2^48 while valid
abbrev pub key_of_record : ℕ → ℕ
key_of_record word = word % 2 ^ 48

abbrev pub is_valid : ℕ → Bool
is_valid word = leb (2 ^ 48) word

-- the record word of a valid current scene
abbrev pub valid_record : SceneKey → ℕ
valid_record k = word_of k + 2 ^ 48

-- whose record it is. The endpoint does not count: a fabric has one current record
abbrev pub owns : ℕ → ℕ → ℕ → Bool
owns word fabric endpoint = eqb (fabric_of (key_of_record word)) fabric

-- whether a key word lies in a range: the parts that the range names are all that stands above those that it leaves open
unfoldable pub within : KeyRange → ℕ → Bool
within (Fabric fabric) key = eqb (fabric_of key) fabric
within (Endpoint k) key = eqb (key / 2 ^ 24) (k.fabric * 2 ^ 16 + k.endpoint)
within (Group k) key = eqb (key / 2 ^ 8) ((k.fabric * 2 ^ 16 + k.endpoint) * 2 ^ 16 + k.group)

-- the key words of a fabric; of a fabric on an endpoint; of a fabric in a group on an endpoint
abbrev pub fabric_keys : ℕ → KeyRange
fabric_keys fabric = Fabric fabric

abbrev pub endpoint_keys : ℕ → ℕ → KeyRange
endpoint_keys fabric endpoint = Endpoint (record { fabric = fabric; endpoint = endpoint })

abbrev pub group_keys : ℕ → ℕ → ℕ → KeyRange
group_keys fabric endpoint group = Group (record { fabric = fabric; endpoint = endpoint; group = group })
