-- What a copy answers and leaves, of one scene or of a whole group: document 01, "Commands", Copy.
use Rattle.std.specs.Prelude.{ℕ, zero, suc, Bool, true, false, cond, eqb, get_or, Option, Some, None}
use Rattle.words.specs.Constants.{success, not_found, insufficient_space}
use Rattle.words.specs.Words.{word_of, scene_of, within, group_keys}
use Rattle.words.specs.declared.SceneKey.{SceneKey}
use Rattle.words.specs.declared.GroupKey.{GroupKey}
use Rattle.slots.specs.Slots.{first_key, fields_at}
use Rattle.records.specs.declared.Scope.{Scope}
use Rattle.records.specs.declared.Scope.TheVariants.{Scene, Group}
use Rattle.requests.specs.declared.Membership.{Membership}
use Rattle.requests.specs.declared.CopyRequest.{CopyRequest}
use Rattle.requests.specs.Requests.{whole_group, copy_gate}
use Rattle.state.specs.Table.{Table, Entries, with_current}
use Rattle.state.specs.Capacity.{room_for}
use Rattle.state.specs.Current.{invalidate_current}
use Rattle.state.specs.Change.{put_at, append}
use Rattle.state.specs.Answer.{Result, result_of, refused, refusal_of, guarded}

-- a status, and the entries with their count
pub record Copied : Type 0 where
  pub status : ℕ
  pub entries : Entries

abbrev pub copied_of : ℕ → Entries → Copied
copied_of n e = record { status = n; entries = e }

-- the entry at i written to where its target key was found; else behind the last entry, while the fabric has something remaining
unfoldable pub copy_to : Option ℕ → ℕ → SceneKey → Entries → Copied
copy_to (Some p) i key e = copied_of success (put_at p key (get_or e.slots.times i 0) (fields_at e.slots.fields i) e)
copy_to None i key e =
    cond (eqb (room_for e.state e.slots.keys key.fabric) 0) (copied_of insufficient_space e)
    (copied_of success (append key (get_or e.slots.times i 0) (fields_at e.slots.fields i) e))

unfoldable pub copy_entry : ℕ → SceneKey → Entries → Copied
copy_entry i key e = copy_to (first_key e.slots.keys e.state.entries (word_of key)) i key e

-- ---- one scene

abbrev pub source_key : CopyRequest → SceneKey
source_key c = record { fabric = c.fabric; endpoint = c.endpoint; group = c.from.group; scene = c.from.scene }

abbrev pub target_key : CopyRequest → SceneKey
target_key c = record { fabric = c.fabric; endpoint = c.endpoint; group = c.to.group; scene = c.to.scene }

unfoldable pub copy_found : Option ℕ → SceneKey → Entries → Copied
copy_found (Some i) key e = copy_entry i key e
copy_found None key e = copied_of not_found e

-- the first entry with the source's key
unfoldable pub copy_single : SceneKey → SceneKey → Entries → Copied
copy_single from to e = copy_found (first_key e.slots.keys e.state.entries (word_of from)) to e

-- ---- the whole group

abbrev pub source_group : CopyRequest → GroupKey
source_group c = record { fabric = c.fabric; endpoint = c.endpoint; group = c.from.group }

abbrev pub target_group : CopyRequest → GroupKey
target_group c = record { fabric = c.fabric; endpoint = c.endpoint; group = c.to.group }

-- the scene of a source in the target group
abbrev pub key_in : GroupKey → ℕ → SceneKey
key_in g word = record { fabric = g.fabric; endpoint = g.endpoint; group = g.group; scene = scene_of word }

abbrev pub is_source : GroupKey → ℕ → Bool
is_source g word = within (group_keys g.fabric g.endpoint g.group) word

-- sources in table order, k positions from i on: the status is 0x8B until one is met; the first without room ends the walk.
-- Positions are those of the entries at the start: a copy that was appended is in another group and so no source
unfoldable pub copy_walk : GroupKey → GroupKey → ℕ → ℕ → ℕ → Entries → Copied
copy_walk from to zero i status e = copied_of status e
copy_walk from to (suc k) i status e =
    cond (is_source from (get_or e.slots.keys i 0))
    (let o : Copied = copy_entry i (key_in to (get_or e.slots.keys i 0)) e in
    cond (eqb o.status success) (copy_walk from to k (suc i) success o.entries) o)
    (copy_walk from to k (suc i) status e)

-- ---- both

unfoldable pub copy_sources : CopyRequest → Entries → Copied
copy_sources c e =
    cond (whole_group c.mode) (copy_walk (source_group c) (target_group c) e.state.entries 0 not_found e)
    (copy_single (source_key c) (target_key c) e)

-- success invalidates by target group, or target scene
abbrev pub target_scope : CopyRequest → Scope
target_scope c = cond (whole_group c.mode) (Group (target_group c)) (Scene (target_key c))

-- a copy that ran out keeps earlier copies, uninvalidated and unsaved
unfoldable pub copied : CopyRequest → Table → Copied → Result
copied c t o =
    let u : Table = record { state = o.entries.state; slots = o.entries.slots; records = t.records } in
    cond (eqb o.status success) (result_of success true (with_current (invalidate_current (target_scope c)) u)) (result_of o.status false u)

-- remaining 0 gives 0x89 before any search, even for an overwrite
unfoldable pub copy_scenes_inner : CopyRequest → Table → Result
copy_scenes_inner c t =
    cond (eqb (room_for t.state t.slots.keys c.fabric) 0) (refused t insufficient_space)
    (copied c t (copy_sources c (record { state = t.state; slots = t.slots })))

unfoldable pub copy_scene : CopyRequest → Membership → Membership → Table → Result
copy_scene c source target t = guarded (refused t) (refusal_of t (copy_gate c source target)) (copy_scenes_inner c t)
