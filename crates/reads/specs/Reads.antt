-- What view, recall's lookup, membership and info answer, and the field bytes at a position: document 01, "Commands", and "Builders
-- go" in "Forms that change first". A read changes neither the head nor the lent memory, apart from the scene list buffer.
use Rattle.std.specs.Prelude.{ℕ, min, Bool, true, false, cond, ◌&&◌, List, [], eqb, ltb, length, get_or, Option, Some, None}
use Rattle.words.specs.Constants.{success, not_found, buffer_too_short, max_scenes, max_shown}
use Rattle.words.specs.Words.{group_of, scene_of, key_of_record, is_valid, endpoint_keys, group_keys}
use Rattle.words.specs.declared.SceneKey.{SceneKey}
use Rattle.words.specs.declared.GroupKey.{GroupKey}
use Rattle.slots.specs.Slots.{count_keys, scenes_inside, laid, length_at, fields_at}
use Rattle.records.specs.Records.{first_owned}
use Rattle.requests.specs.declared.Membership.{Membership}
use Rattle.requests.specs.Requests.{lookup_gate, group_gate, info_gate}
use Rattle.reads.specs.declared.SceneRead.{SceneRead}
use Rattle.reads.specs.declared.ListRead.{ListRead}
use Rattle.reads.specs.declared.InfoRead.{InfoRead}
use Rattle.state.specs.declared.ScenesState.{ScenesState}
use Rattle.state.specs.Table.{Table}
use Rattle.state.specs.Sound.{sound}
use Rattle.state.specs.Capacity.{remaining}
use Rattle.state.specs.Change.{find_scene}
use Rattle.state.specs.Answer.{refusal_of, guarded}

-- ---- view, and recall's lookup

-- the transition time of a recall: the stored one, or the request's override
abbrev pub Transition : Type 0
Transition = Option ℕ

-- the override if present, else the stored time
abbrev pub effective_time : Transition → ℕ → ℕ
effective_time None time = time
effective_time (Some o) time = o

-- a refusal has no time, a position past any table's entries, and no field bytes
abbrev pub unread : Table → ℕ → SceneRead
unread t n = record { status = n; time = 0; at = max_scenes; len = 0; state = t.state }

-- time, position and number of field bytes of a scene that was found
unfoldable pub read_at : Option ℕ → Transition → Table → SceneRead
read_at (Some p) transition t = record {
  status = success;
  time = effective_time transition (get_or t.slots.times p 0);
  at = p;
  len = length_at t.slots.fields p;
  state = t.state;
}
read_at None transition t = unread t not_found

unfoldable pub recall_lookup : SceneKey → Membership → Transition → Table → SceneRead
recall_lookup key member transition t = guarded (unread t) (refusal_of t (lookup_gate key member)) (read_at (find_scene key t) transition t)

-- time and fields as they are stored
unfoldable pub view_scene : SceneKey → Membership → Table → SceneRead
view_scene key member t = guarded (unread t) (refusal_of t (lookup_gate key member)) (read_at (find_scene key t) None t)

-- the field bytes of the entry at a position: none past the entries, with length 0, or in an unsound table
unfoldable pub field_bytes : ℕ → Table → List ℕ
field_bytes at t = cond (sound t && ltb at t.state.entries) (fields_at t.slots.fields at) []

-- ---- membership

-- the group's scene ids, in table order
abbrev pub scene_ids : GroupKey → Table → List ℕ
scene_ids key t = scenes_inside t.slots.keys t.state.entries (group_keys key.fabric key.endpoint key.group)

-- the answer, and the scene list buffer
pub record Listed : Type 0 where
  pub read : ListRead
  pub ids : List ℕ

abbrev pub listed_of : ListRead → List ℕ → Listed
listed_of r l = record { read = r; ids = l }

abbrev pub unlisted : List ℕ → Table → ℕ → Listed
unlisted buffer t n = listed_of (record { status = n; remaining = 0; len = 0; state = t.state }) buffer

-- 8 if the list is longer than the buffer; else the list in its front, and the buffer past it stays
unfoldable pub list_ids : List ℕ → ℕ → List ℕ → Table → Listed
list_ids l left buffer t =
    cond (ltb (length buffer) (length l)) (unlisted buffer t buffer_too_short)
    (listed_of (record { status = success; remaining = left; len = length l; state = t.state }) (laid l buffer))

unfoldable pub get_scene_membership : GroupKey → Membership → List ℕ → Table → Listed
get_scene_membership key member buffer t =
    guarded (unlisted buffer t) (refusal_of t (group_gate key member))
    (list_ids (scene_ids key t) (remaining t.state t.slots.keys key.fabric) buffer t)

-- ---- info

-- no row: a refusal, or a fabric with no entry on the endpoint and no record
abbrev pub rowless : ℕ → ScenesState → InfoRead
rowless n s = record { status = n; present = false; count = 0; group = 0; scene = 0; valid = false; remaining = 0; fabric = 0; state = s }

abbrev pub no_row : Table → ℕ → InfoRead
no_row t n = rowless n t.state

-- the record's group, scene and whether it is valid; 0, 0 and no without one
unfoldable pub info_row : Option ℕ → ℕ → ℕ → Table → InfoRead
info_row (Some p) fabric n t = record {
  status = success;
  present = true;
  count = min n max_shown;
  group = group_of (key_of_record (get_or t.records p 0));
  scene = scene_of (key_of_record (get_or t.records p 0));
  valid = is_valid (get_or t.records p 0);
  remaining = remaining t.state t.slots.keys fabric;
  fabric = fabric;
  state = t.state;
}
info_row None fabric n t = cond (eqb n 0) (no_row t success) (record {
  status = success;
  present = true;
  count = min n max_shown;
  group = 0;
  scene = 0;
  valid = false;
  remaining = remaining t.state t.slots.keys fabric;
  fabric = fabric;
  state = t.state;
})

unfoldable pub read_fabric_scene_info : ℕ → ℕ → Bool → Table → InfoRead
read_fabric_scene_info fabric endpoint single t =
    guarded (no_row t) (refusal_of t (info_gate fabric single))
    (info_row (first_owned t.records t.state.recorded fabric endpoint) fabric (count_keys t.slots.keys t.state.entries (endpoint_keys fabric endpoint)) t)
