-- The numbers that document 01 names, under one name each: statuses, faults, limits. The code has them as constants of a type.
use Rattle.std.specs.Prelude.{ℕ}

-- statuses: "Commands" and "Who causes which refusal"
abbrev pub success : ℕ
success = 0

abbrev pub invalid_command : ℕ
invalid_command = 0x85

abbrev pub constraint_error : ℕ
constraint_error = 0x87

abbrev pub insufficient_space : ℕ
insufficient_space = 0x89

abbrev pub not_found : ℕ
not_found = 0x8B

-- faults: fabric 0
abbrev pub no_fabric : ℕ
no_fabric = 1

-- membership failed when consulted
abbrev pub membership_failed : ℕ
membership_failed = 2

-- captured bytes too long
abbrev pub capture_too_long : ℕ
capture_too_long = 3

abbrev pub apply_failed : ℕ
apply_failed = 4

-- info asked for one list element
abbrev pub single_element : ℕ
single_element = 5

-- table not sound
abbrev pub unsound : ℕ
unsound = 6

-- pair byte above 2
abbrev pub bad_pair : ℕ
bad_pair = 7

-- scene list buffer shorter than the list, or image buffer shorter than the image
abbrev pub buffer_too_short : ℕ
buffer_too_short = 8

-- image that `from_tlv` refuses
abbrev pub bad_image : ℕ
bad_image = 9

-- image with a repeated key, two records of one fabric, or scene 0 or 255
abbrev pub clashing_image : ℕ
clashing_image = 10

-- field bytes that are no list of extension field sets, go deeper than 16, or hold another number of pairs than there are pair bytes
abbrev pub bad_field_sets : ℕ
bad_field_sets = 11

-- all memberships taken, and one that is new: document 02, Q-7
abbrev pub memberships_full : ℕ
memberships_full = 12

-- pair bytes: the attribute is not scenable, or it is of a cluster that is not known
abbrev pub not_scenable : ℕ
not_scenable = 0

abbrev pub cluster_unknown : ℕ
cluster_unknown = 2

-- scene ids that no command may name
abbrev pub global_scene : ℕ
global_scene = 0

abbrev pub reserved_scene : ℕ
reserved_scene = 255

-- the longest transition time, in milliseconds
abbrev pub max_time : ℕ
max_time = 60000000

-- M: the most field bytes of a scene
abbrev pub max_fields : ℕ
max_fields = 128

-- the lent bytes of an entry: a length, then 128 field bytes
abbrev pub stride : ℕ
stride = 129

-- what a store appends to captured bytes
abbrev pub end_of_container : ℕ
end_of_container = 0x18

-- the largest N
abbrev pub max_scenes : ℕ
max_scenes = 1024

-- the most that an answer can say of a count
abbrev pub max_shown : ℕ
max_shown = 255

-- the most that an answer says of a remaining capacity: document 02, Q-4
abbrev pub max_remaining : ℕ
max_remaining = 253

-- the most memberships that are held: document 02, Q-7
abbrev pub max_memberships : ℕ
max_memberships = 256
