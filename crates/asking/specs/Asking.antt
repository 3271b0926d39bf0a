-- The calls that take a command's membership from the memberships that are held, and those that change both: document 02, Q-7. Each is defined by
-- the call of its name that is told the membership: there is no second order of tests.
use Rattle.std.specs.Prelude.{ℕ, cond, not, List, [], ◌∷◌, eqb}
use Rattle.words.specs.Constants.{success, not_found, unsound}
use Rattle.words.specs.Words.{fabric_keys, group_keys}
use Rattle.words.specs.declared.SceneKey.{SceneKey}
use Rattle.words.specs.declared.GroupKey.{GroupKey}
use Rattle.requests.specs.declared.Membership.{Membership}
use Rattle.requests.specs.declared.Membership.TheVariants.{Yes}
use Rattle.requests.specs.declared.CopyRequest.{CopyRequest}
use Rattle.requests.specs.Requests.{first_refusal, refuse_if, fabric_gate}
use Rattle.state.specs.Table.{Table}
use Rattle.state.specs.Answer.{Result, refused, refusal_of, guarded}
use Rattle.commands.specs.declared.Applied.{Applied}
use Rattle.commands.specs.Commands.{add_scene, remove_scene, remove_all_scenes, recall_scene}
use Rattle.commands.specs.Counted.{Counted, counted_of, store_counted}
use Rattle.copies.specs.Copy.{source_group, target_group, copy_scene}
use Rattle.reads.specs.Reads.{Transition}
use Rattle.reads.specs.declared.SceneRead.{SceneRead}
use Rattle.reads.specs.Reads.{unread, view_scene, recall_lookup, Listed, unlisted, get_scene_membership}
use Rattle.lifecycle.specs.Lifecycle.{remove_for_fabric, factory_reset}
use Rattle.add_read.specs.Adding.{add_scene_read}
use Rattle.groups.specs.Groups.{Groups, groups_sound, is_member, member_of, ungrouped_gate, retain_groups, no_groups}

-- ---- asking

-- 6 where the memberships are not sound, before all else
unfoldable pub asking : {A : Type 0} → Groups → (ℕ → A) → A → A
asking g refuse o = cond (groups_sound g) o (refuse unsound)

-- the group of a scene
abbrev pub group_of_scene : SceneKey → GroupKey
group_of_scene key = record { fabric = key.fabric; endpoint = key.endpoint; group = key.group }

abbrev pub asked : SceneKey → Groups → Membership
asked key g = member_of (group_of_scene key) g

unfoldable pub add_asking : SceneKey → ℕ → List ℕ → List ℕ → Groups → Table → Result
add_asking key time pairs ext g t = asking g (refused t) (add_scene key time (asked key g) pairs ext t)

unfoldable pub add_read_asking : SceneKey → ℕ → List ℕ → List ℕ → Groups → Table → Result
add_read_asking key time pairs ext g t = asking g (refused t) (add_scene_read key time (asked key g) pairs ext t)

-- with what the host is told beside the answer
unfoldable pub store_asking : SceneKey → List ℕ → Groups → Table → Counted
store_asking key captured g t = asking g (λ n. counted_of (refused t n) 0) (store_counted key (asked key g) captured t)

unfoldable pub remove_asking : SceneKey → Groups → Table → Result
remove_asking key g t = asking g (refused t) (remove_scene key (asked key g) t)

unfoldable pub remove_all_asking : GroupKey → Groups → Table → Result
remove_all_asking key g t = asking g (refused t) (remove_all_scenes key (member_of key g) t)

unfoldable pub recall_asking : SceneKey → Applied → Groups → Table → Result
recall_asking key applied g t = asking g (refused t) (recall_scene key (asked key g) applied t)

unfoldable pub lookup_asking : SceneKey → Transition → Groups → Table → SceneRead
lookup_asking key transition g t = asking g (unread t) (recall_lookup key (asked key g) transition t)

unfoldable pub view_asking : SceneKey → Groups → Table → SceneRead
view_asking key g t = asking g (unread t) (view_scene key (asked key g) t)

unfoldable pub copy_asking : CopyRequest → Groups → Table → Result
copy_asking c g t = asking g (refused t) (copy_scene c (member_of (source_group c) g) (member_of (target_group c) g) t)

unfoldable pub membership_asking : GroupKey → List ℕ → Groups → Table → Listed
membership_asking key buffer g t = asking g (unlisted buffer t) (get_scene_membership key (member_of key g) buffer t)

-- ---- what changes both

-- a status or fault, a save mark and the scenes, with the memberships that are left
pub record Both : Type 0 where
  pub result : Result
  pub groups : Groups

abbrev pub both_of : Result → Groups → Both
both_of r g = record { result = r; groups = g }

abbrev pub both_refused : Groups → Table → ℕ → Both
both_refused g t n = both_of (refused t n) g

-- 0x8B: no such membership
abbrev pub held_gate : GroupKey → Groups → ℕ
held_gate key g = refuse_if (not (is_member key g)) not_found

unfoldable pub leave_gate : GroupKey → Groups → ℕ
leave_gate key g = first_refusal (fabric_gate key.fabric ∷ ungrouped_gate key.group ∷ held_gate key g ∷ [])

-- leaving drops every match, and does to the scenes and records what a remove all does that is told yes
unfoldable pub leave_group : GroupKey → Groups → Table → Both
leave_group key g t =
    asking g (both_refused g t) (guarded (both_refused g t) (refusal_of t (leave_gate key g))
    (both_of (remove_all_scenes key Yes t) (retain_groups (group_keys key.fabric key.endpoint key.group) g)))

-- the memberships follow where the scenes did not refuse; by themselves they neither step nor mark
abbrev pub following : Result → Groups → Groups → Both
following r new g = both_of r (cond (eqb r.status success) new g)

-- a fabric's removal drops its memberships
unfoldable pub remove_for_fabric_both : ℕ → Groups → Table → Both
remove_for_fabric_both fabric g t = asking g (both_refused g t) (following (remove_for_fabric fabric t) (retain_groups (fabric_keys fabric) g) g)

-- a factory reset empties them
unfoldable pub factory_reset_both : Groups → Table → Both
factory_reset_both g t = asking g (both_refused g t) (following (factory_reset t) (no_groups g) g)
