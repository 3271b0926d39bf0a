-- The memberships that are held beside the scenes, and what joining, leaving and asking make of them: document 02, Q-7. A membership is a
-- fabric, an endpoint and a group; Matter's name for such a list is the group table. Its lent memory is a slice of words of its own.
use Rattle.std.specs.Prelude.{ℕ, ◌+◌, Bool, false, cond, not, ◌&&◌, List, [], ◌∷◌, eqb, leb, ltb, length, get_or, set, take}
use Rattle.words.specs.Constants.{success, constraint_error, unsound, memberships_full, global_scene, max_memberships}
use Rattle.words.specs.Conditions.{all_of}
use Rattle.words.specs.Words.{key_of, scene_of}
use Rattle.words.specs.Below.{every_below, any_below}
use Rattle.words.specs.declared.GroupKey.{GroupKey}
use Rattle.words.specs.declared.KeyRange.{KeyRange}
use Rattle.slots.specs.Slots.{key_sound, outside}
use Rattle.records.specs.Records.{moved}
use Rattle.requests.specs.declared.Membership.{Membership}
use Rattle.requests.specs.declared.Membership.TheVariants.{Yes, No}
use Rattle.requests.specs.Requests.{first_refusal, refuse_if, fabric_gate}
use Rattle.groups.specs.declared.GroupsState.{GroupsState}
use Rattle.groups.specs.declared.GroupRead.{GroupRead}

-- the head, with how many are held, and the lent words, whole
pub record Groups : Type 0 where
  pub state : GroupsState
  pub words : List ℕ

abbrev pub groups_of : GroupsState → List ℕ → Groups
groups_of s w = record { state = s; words = w }

abbrev pub with_held : ℕ → GroupsState
with_held n = record { held = n }

-- ---- the words

-- a membership's word is a key word of its group, with scene 0, which no scene has
abbrev pub group_word : GroupKey → ℕ
group_word k = key_of k.fabric k.endpoint k.group global_scene

-- in range: a key word, with fabric 1 to 255, and scene 0. Group 0 may be held by a raw write; it is never asked for
abbrev pub group_sound : ℕ → Bool
group_sound word = key_sound word && eqb (scene_of word) global_scene

-- at most 256 held, a slice that has room for 256, and words in range
unfoldable pub groups_sound : Groups → Bool
groups_sound g =
    all_of (leb g.state.held max_memberships
    ∷ leb max_memberships (length g.words)
    ∷ every_below (λ i. group_sound (get_or g.words i 0)) g.state.held
    ∷ [])

-- the memberships in order
unfoldable pub words_in : Groups → List ℕ
words_in g = take g.state.held g.words

-- ---- yes or no

-- whether a membership is held; no for group 0
unfoldable pub is_member : GroupKey → Groups → Bool
is_member k g = not (eqb k.group 0) && any_below (λ i. eqb (get_or g.words i 0) (group_word k)) g.state.held

-- the answer as commands take it
unfoldable pub member_of : GroupKey → Groups → Membership
member_of k g = cond (is_member k g) Yes No

-- 6
abbrev pub groups_gate : Groups → ℕ
groups_gate g = refuse_if (not (groups_sound g)) unsound

-- a yes or no that is asked for by itself: 6, 1, else the answer
unfoldable pub read_group : GroupKey → Groups → GroupRead
read_group k g =
    let n : ℕ = first_refusal (groups_gate g ∷ fabric_gate k.fabric ∷ []) in
    record { status = n; held = cond (eqb n success) (is_member k g) false }

-- ---- joining

-- a status or fault, and the memberships that are left. There is no save mark, and no version of the scenes to step
pub record Joined : Type 0 where
  pub status : ℕ
  pub groups : Groups

abbrev pub joined_of : ℕ → Groups → Joined
joined_of n g = record { status = n; groups = g }

-- 0x87: group 0 can be neither joined nor left
abbrev pub ungrouped_gate : ℕ → ℕ
ungrouped_gate group = refuse_if (eqb group 0) constraint_error

unfoldable pub join_gate : GroupKey → Groups → ℕ
join_gate k g = first_refusal (groups_gate g ∷ fabric_gate k.fabric ∷ ungrouped_gate k.group ∷ [])

-- behind the last one
unfoldable pub with_member : GroupKey → Groups → Groups
with_member k g = groups_of (with_held (g.state.held + 1)) (set g.words g.state.held (group_word k))

-- an existing membership stays as it is; a new one gets 12 where all 256 are taken
unfoldable pub join_new : GroupKey → Groups → Joined
join_new k g =
    cond (is_member k g) (joined_of success g)
    (cond (ltb g.state.held max_memberships) (joined_of success (with_member k g)) (joined_of memberships_full g))

unfoldable pub join_group : GroupKey → Groups → Joined
join_group k g = cond (eqb (join_gate k g) success) (join_new k g) (joined_of (join_gate k g) g)

-- ---- dropping

-- every membership in a range goes, and the others keep their order; words behind them stay as they were
unfoldable pub retain_groups : KeyRange → Groups → Groups
retain_groups r g =
    let kept : List ℕ = outside g.words g.state.held r in
    groups_of (with_held (length kept)) (moved kept g.words)

-- none held: the words stay
abbrev pub no_groups : Groups → Groups
no_groups g = groups_of (with_held 0) g.words
