-- What a request alone decides: the refusals of each command and read, in document 01's order ("Commands" and "Who causes which
-- refusal"). A gate answers 0 or the number of its refusal. Fault 6, which comes before them all, is the table's.
use Rattle.std.specs.Prelude.{ℕ, ◌+◌, ◌%◌, Bool, cond, ◌||◌, List, [], ◌∷◌, map, eqb, ltb}
use Rattle.words.specs.Constants.{success, invalid_command, constraint_error, insufficient_space, no_fabric, membership_failed, capture_too_long, single_element, bad_pair, not_scenable, cluster_unknown, global_scene, reserved_scene, max_time}
use Rattle.words.specs.declared.SceneKey.{SceneKey}
use Rattle.words.specs.declared.GroupKey.{GroupKey}
use Rattle.requests.specs.declared.Membership.{Membership}
use Rattle.requests.specs.declared.Membership.TheVariants.{Yes, No, Failed}
use Rattle.requests.specs.declared.CopyRequest.{CopyRequest}

-- the first refusal counts
unfoldable pub or_next : ℕ → ℕ → ℕ
or_next a b = cond (eqb a success) b a

unfoldable pub first_refusal : List ℕ → ℕ
first_refusal [] = success
first_refusal (r ∷ rs) = or_next r (first_refusal rs)

abbrev pub refuse_if : Bool → ℕ → ℕ
refuse_if b n = cond b n success

-- ---- what a host says in numbers

-- 1 is yes, 0 is no; at any other number the host could not tell
unfoldable pub membership_of : ℕ → Membership
membership_of n = cond (eqb n 1) Yes (cond (eqb n 0) No Failed)

-- ---- single tests

-- 1, fabric 0
abbrev pub fabric_gate : ℕ → ℕ
fabric_gate fabric = refuse_if (eqb fabric 0) no_fabric

-- scene 0 or 255
abbrev pub reserved : ℕ → Bool
reserved scene = eqb scene global_scene || eqb scene reserved_scene

-- 0x87, a reserved scene
abbrev pub scene_gate : ℕ → ℕ
scene_gate scene = refuse_if (reserved scene) constraint_error

-- 0x87, time above 60,000,000
abbrev pub time_gate : ℕ → ℕ
time_gate time = refuse_if (ltb max_time time) constraint_error

-- 0x85, membership no; 2, membership failed
abbrev pub answered : Membership → ℕ
answered Yes = success
answered No = invalid_command
answered Failed = membership_failed

-- group 0 needs no membership answer (the Rust's `group_in_table`)
unfoldable pub member_gate : ℕ → Membership → ℕ
member_gate group member = cond (eqb group 0) success (answered member)

-- the test of a group that a command reads or removes from, and of one that it writes to
abbrev pub source_gate : ℕ → Membership → ℕ
source_gate group member = member_gate group member

abbrev pub target_gate : ℕ → Membership → ℕ
target_gate group member = member_gate group member

-- 0x85, a pair that is not scenable; 7, a pair byte above 2
abbrev pub pair_gate : ℕ → ℕ
pair_gate pair = cond (eqb pair not_scenable) invalid_command (refuse_if (ltb cluster_unknown pair) bad_pair)

-- the first pair byte other than 1 and 2 decides
unfoldable pub pairs_gate : List ℕ → ℕ
pairs_gate pairs = first_refusal (map pair_gate pairs)

-- 0x89, more field bytes than the limit
abbrev pub fields_gate : ℕ → ℕ → ℕ
fields_gate limit len = refuse_if (ltb limit len) insufficient_space

-- 3, captured bytes that do not fit the limit with 0x18 appended
abbrev pub capture_gate : ℕ → ℕ → ℕ
capture_gate limit len = refuse_if (ltb limit (len + 1)) capture_too_long

-- bit 0 of a copy's mode: the whole group
abbrev pub whole_group : ℕ → Bool
whole_group mode = eqb (mode % 2) 1

-- scene ids are not examined in a copy of the whole group
abbrev pub copied_gate : ℕ → ℕ → ℕ
copied_gate mode scene = cond (whole_group mode) success (scene_gate scene)

-- ---- the commands and reads

-- add: the length of the fields and how long they may be
unfoldable pub add_gate : SceneKey → ℕ → Membership → List ℕ → ℕ → ℕ → ℕ
add_gate key time member pairs limit len =
    first_refusal (fabric_gate key.fabric
    ∷ scene_gate key.scene
    ∷ time_gate time
    ∷ target_gate key.group member
    ∷ pairs_gate pairs
    ∷ fields_gate limit len
    ∷ [])

-- store: the length of the captured bytes and how long they may be with the end that is appended
unfoldable pub store_gate : SceneKey → Membership → ℕ → ℕ → ℕ
store_gate key member limit len =
    first_refusal (fabric_gate key.fabric ∷ scene_gate key.scene ∷ target_gate key.group member ∷ capture_gate limit len ∷ [])

-- view, remove and recall
unfoldable pub lookup_gate : SceneKey → Membership → ℕ
lookup_gate key member = first_refusal (fabric_gate key.fabric ∷ scene_gate key.scene ∷ source_gate key.group member ∷ [])

-- remove all and membership
unfoldable pub group_gate : GroupKey → Membership → ℕ
group_gate key member = first_refusal (fabric_gate key.fabric ∷ source_gate key.group member ∷ [])

-- copy: the target group's membership is consulted after a yes to the source group's
unfoldable pub copy_gate : CopyRequest → Membership → Membership → ℕ
copy_gate c source target =
    first_refusal (fabric_gate c.fabric
    ∷ copied_gate c.mode c.from.scene
    ∷ copied_gate c.mode c.to.scene
    ∷ source_gate c.from.group source
    ∷ target_gate c.to.group target
    ∷ [])

-- info: 5, asked for one list element
unfoldable pub info_gate : ℕ → Bool → ℕ
info_gate fabric single = first_refusal (fabric_gate fabric ∷ refuse_if single single_element ∷ [])
