-- What a refusal answers and leaves: document 01, "Who causes which refusal", its last sentence. "Every refusal answers its number with no
-- fields, list or save mark and changes nothing lent nor the head, apart from 0x89 midway in a whole-group copy."
use Rattle.std.specs.Prelude.{ℕ, ◌+◌, ◌*◌, ◌≤◌, ◌<◌, ◌≡◌, Bool, true, false, ◌&&◌, List, [], ◌⊎◌, eqb, ltb, length, drop, get_or}
use Rattle.words.specs.Constants.{stride, success, insufficient_space, unsound, bad_field_sets}
use Rattle.words.specs.Words.{word_of}
use Rattle.words.specs.declared.SceneKey.{SceneKey}
use Rattle.words.specs.declared.GroupKey.{GroupKey}
use Rattle.slots.specs.Slots.{Slots, SceneEntry, entry_at}
use Rattle.requests.specs.declared.Membership.{Membership}
use Rattle.requests.specs.declared.CopyRequest.{CopyRequest}
use Rattle.requests.specs.Requests.{whole_group}
use Rattle.commands.specs.declared.Applied.{Applied}
use Rattle.reads.specs.Reads.{Transition}
use Rattle.reads.specs.declared.SceneRead.{SceneRead}
use Rattle.reads.specs.declared.InfoRead.{InfoRead}
use Rattle.state.specs.Table.{Table, with_entry_count}
use Rattle.state.specs.Sound.{sound}
use Rattle.state.specs.Capacity.{remaining}
use Rattle.state.specs.Answer.{Result, refused}
use Rattle.commands.specs.Commands.{add_scene, store_scene, remove_scene, remove_all_scenes, recall_scene}
use Rattle.copies.specs.Copy.{source_group, target_group, key_in, is_source, copy_scene}
use Rattle.reads.specs.Reads.{unread, view_scene, recall_lookup, Listed, unlisted, get_scene_membership, no_row, read_fabric_scene_info}
use Rattle.lifecycle.specs.Lifecycle.{scenable_attribute_changed, remove_for_fabric, factory_reset, startup, fail_safe}
use Rattle.image_save.specs.Saving.{Saved, unsaved, save_image}
use Rattle.image_load.specs.Loading.{load_image}
use Rattle.add_read.specs.Adding.{add_scene_read}
use Rattle.observation.specs.Calls as calls

-- ---- the outward calls, each with all its inputs but the table

pub data Outward : Type 0 where
  add : SceneKey → (time : ℕ) → Membership → (pairs ext : List ℕ) → Outward
  add_read : SceneKey → (time : ℕ) → Membership → (pairs ext : List ℕ) → Outward
  store : SceneKey → Membership → (captured : List ℕ) → Outward
  remove : SceneKey → Membership → Outward
  remove_all : GroupKey → Membership → Outward
  recall : SceneKey → Membership → Applied → Outward
  lookup : SceneKey → Membership → Transition → Outward
  view : SceneKey → Membership → Outward
  copy : CopyRequest → (source target : Membership) → Outward
  membership : GroupKey → Membership → (buffer : List ℕ) → Outward
  info : (fabric endpoint : ℕ) → (single : Bool) → Outward
  notice : (endpoint : ℕ) → Outward
  removal : (fabric : ℕ) → Outward
  reset start failSafeEvent : Outward
  save : (buffer : List ℕ) → Outward
  load : (bytes : List ℕ) → Outward

-- all that a call answers and leaves. A result has the table afterwards, a list the scene list buffer, a save the image buffer; a read and
-- a save are lent the table's memory to read alone, and hand the head back
pub data Answered : Type 0 where
  result : Result → Answered
  scene : SceneRead → Answered
  list : Listed → Answered
  row : InfoRead → Answered
  image : Saved → Answered

abbrev pub status : Answered → ℕ
status (result r) = r.status
status (scene r) = r.status
status (list l) = l.read.status
status (row r) = r.status
status (image s) = s.answer.status

-- what a call answers: the definition that its contract cites
abbrev pub answer : Outward → Table → Answered
answer (add key time m pairs ext) t = result (add_scene key time m pairs ext t)
answer (add_read key time m pairs ext) t = result (add_scene_read key time m pairs ext t)
answer (store key m captured) t = result (store_scene key m captured t)
answer (remove key m) t = result (remove_scene key m t)
answer (remove_all key m) t = result (remove_all_scenes key m t)
answer (recall key m a) t = result (recall_scene key m a t)
answer (lookup key m o) t = scene (recall_lookup key m o t)
answer (view key m) t = scene (view_scene key m t)
answer (copy c m n) t = result (copy_scene c m n t)
answer (membership key m buffer) t = list (get_scene_membership key m buffer t)
answer (info f e single) t = row (read_fabric_scene_info f e single t)
answer (notice e) t = result (scenable_attribute_changed e t)
answer (removal f) t = result (remove_for_fabric f t)
answer reset t = result (factory_reset t)
answer start t = result (startup t)
answer failSafeEvent t = result (fail_safe t)
answer (save buffer) t = image (save_image buffer t)
answer (load bytes) t = result (load_image bytes t)

-- a number and nothing else: no save mark and the very table; no fields; no list and the very buffer; no row; no image and the very buffer.
-- The head as it came
abbrev pub only : Outward → Table → ℕ → Answered
only (add key time m pairs ext) t n = result (refused t n)
only (add_read key time m pairs ext) t n = result (refused t n)
only (store key m captured) t n = result (refused t n)
only (remove key m) t n = result (refused t n)
only (remove_all key m) t n = result (refused t n)
only (recall key m a) t n = result (refused t n)
only (lookup key m o) t n = scene (unread t n)
only (view key m) t n = scene (unread t n)
only (copy c m k) t n = result (refused t n)
only (membership key m buffer) t n = list (unlisted buffer t n)
only (info f e single) t n = row (no_row t n)
only (notice e) t n = result (refused t n)
only (removal f) t n = result (refused t n)
only reset t n = result (refused t n)
only start t n = result (refused t n)
only failSafeEvent t n = result (refused t n)
only (save buffer) t n = image (unsaved buffer t n)
only (load bytes) t n = result (refused t n)

-- ---- the sentence

-- 0x89 midway: a whole-group copy that had something remaining when it began, and ran out
abbrev pub midway : Outward → Table → Bool
midway (add key time m pairs ext) t = false
midway (add_read key time m pairs ext) t = false
midway (store key m captured) t = false
midway (remove key m) t = false
midway (remove_all key m) t = false
midway (recall key m a) t = false
midway (lookup key m o) t = false
midway (view key m) t = false
midway (copy c m n) t =
    whole_group c.mode && ltb 0 (remaining t.state t.slots.keys c.fabric) && eqb (copy_scene c m n t).status insufficient_space
midway (membership key m buffer) t = false
midway (info f e single) t = false
midway (notice e) t = false
midway (removal f) t = false
midway reset t = false
midway start t = false
midway failSafeEvent t = false
midway (save buffer) t = false
midway (load bytes) t = false

-- of every table, sound or not, reached or not
abbrev pub EveryRefusal : Type 0
EveryRefusal =
    (c : Outward) (t : Table) → (status (answer c t) ≡ success → ⊥) → midway c t ≡ false → answer c t ≡ only c t (status (answer c t))

-- the same without the exception, which is false
abbrev pub WithoutException : Type 0
WithoutException = (c : Outward) (t : Table) → (status (answer c t) ≡ success → ⊥) → answer c t ≡ only c t (status (answer c t))

-- ---- the exception

-- byte b of the 129 bytes at position i is the same in both
abbrev pub SameByte : Slots → Slots → ℕ → ℕ → Type 0
SameByte s t i b = get_or s.fields (i * stride + b) 0 ≡ get_or t.fields (i * stride + b) 0

-- the entry at i is the one that stood there, with all its 129 bytes
pub record Kept (t : Table) (s : Slots) (i : ℕ) : Type 0 where
  pub entry : i < t.state.entries
  pub same : entry_at s i ≡ entry_at t.slots i
  pub bytes : (b : ℕ) → b < stride → SameByte s t.slots i b

-- the copy of a source: its time and fields, under the key of the target group and its own scene
abbrev pub in_target : CopyRequest → SceneEntry → SceneEntry
in_target c x = record { key = word_of (key_in (target_group c) x.key); time = x.time; fields = x.fields }

-- byte b of an entry with a key word lies past the fields of every source that has this key in the target group
abbrev pub PastSources : CopyRequest → Table → ℕ → ℕ → Type 0
PastSources c t key b =
    (j : ℕ) → j < t.state.entries → is_source (source_group c) (entry_at t.slots j).key ≡ true → (in_target c (entry_at t.slots j)).key ≡ key
    → length (entry_at t.slots j).fields < b

-- the entry at i is the copy of one that stood in the table, of the request's fabric, endpoint and source group; bytes past what such a copy
-- writes keep what they held
pub record CopyOf (c : CopyRequest) (t : Table) (s : Slots) (i : ℕ) : Type 0 where
  pub from : ℕ
  pub entry : from < t.state.entries
  pub source : is_source (source_group c) (entry_at t.slots from).key ≡ true
  pub copy : entry_at s i ≡ in_target c (entry_at t.slots from)
  pub bytes : (b : ℕ) → b < stride → PastSources c t (entry_at s i).key b → SameByte s t.slots i b

-- old and new are alike from the entry at n on
pub record AlikeFrom (n : ℕ) (old new : Slots) : Type 0 where
  pub keys : drop n new.keys ≡ drop n old.keys
  pub times : drop n new.times ≡ drop n old.times
  pub fields : drop (n * stride) new.fields ≡ drop (n * stride) old.fields

-- what a copy that ran out leaves of t: it is not saved, of the head only the entry count may rise, the record words stay; an entry is the
-- one that stood at its position, or the copy of a source; the memory past the entries stays, and no slice changes its length
pub record RanOut (c : CopyRequest) (t : Table) (r : Result) : Type 0 where
  pub unsaved : r.save ≡ false
  pub head : r.table.state ≡ with_entry_count r.table.state.entries t.state
  pub records : r.table.records ≡ t.records
  pub entries : t.state.entries ≤ r.table.state.entries
  pub entry : (i : ℕ) → i < r.table.state.entries → Kept t r.table.slots i ⊎ CopyOf c t r.table.slots i
  pub past : AlikeFrom r.table.state.entries t.slots r.table.slots
  pub keys : length r.table.slots.keys ≡ length t.slots.keys
  pub times : length r.table.slots.times ≡ length t.slots.times
  pub fields : length r.table.slots.fields ≡ length t.slots.fields

abbrev pub Midway : Type 0
Midway = (c : CopyRequest) (m n : Membership) (t : Table) → midway (copy c m n) t ≡ true → RanOut c t (copy_scene c m n t)

-- ---- by the inputs alone

-- 11 (document 02, Q-2): on any two sound tables the same add through the reader is answered it on both or on neither
abbrev pub ElevenByInputs : Type 0
ElevenByInputs =
    (key : SceneKey) (time : ℕ) (m : Membership) (pairs ext : List ℕ) (s t : Table) → sound s ≡ true → sound t ≡ true
    → eqb (add_scene_read key time m pairs ext s).status bad_field_sets ≡ eqb (add_scene_read key time m pairs ext t).status bad_field_sets

-- ---- in the runs of demand 3

-- a call of these runs as an outward call; of recall the command, since its lookup changes nothing
abbrev pub outward : calls.Call → Outward
outward (calls.command f e (calls.add g s time m pairs ext)) = add (calls.scene_key f e g s) time m pairs ext
outward (calls.command f e (calls.add_read g s time m pairs ext)) = add_read (calls.scene_key f e g s) time m pairs ext
outward (calls.command f e (calls.view g s m)) = view (calls.scene_key f e g s) m
outward (calls.command f e (calls.remove g s m)) = remove (calls.scene_key f e g s) m
outward (calls.command f e (calls.remove_all g m)) = remove_all (calls.group_key f e g) m
outward (calls.command f e (calls.store g s m captured)) = store (calls.scene_key f e g s) m captured
outward (calls.command f e (calls.recall g s m o a)) = recall (calls.scene_key f e g s) m a
outward (calls.command f e (calls.copy mode g s h r m n)) = copy (calls.copy_request f e mode g s h r) m n
outward (calls.command f e (calls.membership g m buffer)) = membership (calls.group_key f e g) m buffer
outward (calls.command f e (calls.info single)) = info f e single
outward (calls.notice e) = notice e
outward (calls.removal f) = removal f
outward calls.reset = reset
outward calls.start = start
outward calls.failSafeEvent = failSafeEvent
outward (calls.load bytes) = load bytes

-- a table that is not sound: whatever is wrong with it, every call answers 6 and nothing else, and leaves the very table
abbrev pub UnsoundRun : Type 0
UnsoundRun =
    (t : Table) → sound t ≡ false → (c : calls.Call) → calls.step c t ≡ (record { status = unsound; save = false; values = []; ids = [] }, t)

-- a call that is refused leaves the very table
abbrev pub RefusedRun : Type 0
RefusedRun = (c : calls.Call) (t : Table) → ((calls.answer c t).status ≡ success → ⊥) → midway (outward c) t ≡ false → calls.next c t ≡ t
