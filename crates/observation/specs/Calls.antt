-- The calls on a table: what a member learns from each, and the table that each leaves. Each is one of the definitions that the
-- contracts cite, applied; there is no other definition of a call. Document 01, "In the sight of a fabric"; document 02, Q-1 (the load) and
-- Q-2 (the add through the reader).
use Rattle.std.specs.Prelude.{ℕ, ◌^◌, ◌<◌, ◌≡◌, Bool, false, cond, List, [], ◌∷◌, eqb, leb, take}
use Rattle.words.specs.Constants.{success}
use Rattle.words.specs.declared.SceneKey.{SceneKey}
use Rattle.words.specs.declared.GroupKey.{GroupKey}
use Rattle.requests.specs.declared.Membership.{Membership}
use Rattle.requests.specs.declared.CopyRequest.{CopyRequest}
use Rattle.state.specs.declared.ScenesState.{ScenesState}
use Rattle.commands.specs.declared.Applied.{Applied}
use Rattle.reads.specs.Reads.{Transition}
use Rattle.std.specs.Prelude.{None, Some}
use Rattle.reads.specs.declared.SceneRead.{SceneRead}
use Rattle.reads.specs.declared.InfoRead.{InfoRead}
use Rattle.state.specs.Table.{Table}
use Rattle.state.specs.Answer.{Result}
use Rattle.commands.specs.Commands.{add_scene, store_scene, remove_scene, remove_all_scenes, recall_scene}
use Rattle.copies.specs.Copy.{copy_scene}
use Rattle.reads.specs.Reads.{view_scene, recall_lookup, field_bytes, Listed, get_scene_membership, read_fabric_scene_info}
use Rattle.lifecycle.specs.Lifecycle.{scenable_attribute_changed, remove_for_fabric, factory_reset, startup, fail_safe}
use Rattle.image_load.specs.Loading.{load_image}
use Rattle.add_read.specs.Adding.{add_scene_read}
use Rattle.observation.specs.Lists.{bit, count}

-- a fabric's command or read on one of its endpoints, with what the host inputs; a scene list buffer is lent to membership
pub data Command : Type 0 where
  add : (group scene time : ℕ) → Membership → (pairs ext : List ℕ) → Command
  add_read : (group scene time : ℕ) → Membership → (pairs ext : List ℕ) → Command
  view : (group scene : ℕ) → Membership → Command
  remove : (group scene : ℕ) → Membership → Command
  remove_all : (group : ℕ) → Membership → Command
  store : (group scene : ℕ) → Membership → (captured : List ℕ) → Command
  recall : (group scene : ℕ) → Membership → Transition → Applied → Command
  copy : (mode group scene to_group to_scene : ℕ) → (source target : Membership) → Command
  membership : (group : ℕ) → Membership → (buffer : List ℕ) → Command
  info : (single : Bool) → Command

pub data Call : Type 0 where
  command : (fabric endpoint : ℕ) → Command → Call
  notice : (endpoint : ℕ) → Call
  removal : (fabric : ℕ) → Call
  reset start failSafeEvent : Call
  load : (image : List ℕ) → Call

-- ---- what a member learns

-- status or fault; save mark; the values of view, recall, membership or info; membership's scene ids. Positions, the head and lent
-- memory are no part of it
pub record Answer : Type 0 where
  pub status : ℕ
  pub save : Bool
  pub values : List ℕ
  pub ids : List ℕ

-- an answer and the table afterwards: the head that was handed back, and the memory as it was left
abbrev pub Out : Type 0
Out = Answer × Table

abbrev pub with_state : ScenesState → Table → Table
with_state s t = record { state = s; slots = t.slots; records = t.records }

abbrev pub of_result : Result → Out
of_result r = (record { status = r.status; save = r.save; values = []; ids = [] }, r.table)

-- a scene's time and its field bytes, which the host reads at the answered position
abbrev pub scene_values : SceneRead → Table → List ℕ
scene_values r t = cond (eqb r.status success) (r.time ∷ field_bytes r.at t) []

abbrev pub of_view : SceneRead → Table → Out
of_view r t = (record { status = r.status; save = false; values = scene_values r t; ids = [] }, with_state r.state t)

-- what recall's lookup gives counts with recall, also before fault 4
abbrev pub of_recall : SceneRead → Result → Table → Out
of_recall r c t = (record { status = c.status; save = c.save; values = scene_values r t; ids = [] }, c.table)

abbrev pub of_list : Listed → Table → Out
of_list l t = (
  record {
    status = l.read.status;
    save = false;
    values = cond (eqb l.read.status success) (l.read.remaining ∷ []) [];
    ids = take l.read.len l.ids;
  },
  with_state l.read.state t,
)

-- nothing, or the row's numbers
abbrev pub of_info : InfoRead → Table → Out
of_info r t = (
  record {
    status = r.status;
    save = false;
    values = cond r.present (r.count ∷ r.group ∷ r.scene ∷ bit r.valid ∷ r.remaining ∷ r.fabric ∷ []) [];
    ids = [];
  },
  with_state r.state t,
)

-- ---- one call

abbrev pub scene_key : ℕ → ℕ → ℕ → ℕ → SceneKey
scene_key f e g s = record { fabric = f; endpoint = e; group = g; scene = s }

abbrev pub group_key : ℕ → ℕ → ℕ → GroupKey
group_key f e g = record { fabric = f; endpoint = e; group = g }

abbrev pub copy_request : ℕ → ℕ → ℕ → ℕ → ℕ → ℕ → ℕ → CopyRequest
copy_request f e mode g s h r = record { fabric = f; endpoint = e; mode = mode; from = record { group = g; scene = s }; to = record { group = h; scene = r } }

unfoldable pub does : ℕ → ℕ → Command → Table → Out
does f e (add g s time m pairs ext) t = of_result (add_scene (scene_key f e g s) time m pairs ext t)
does f e (add_read g s time m pairs ext) t = of_result (add_scene_read (scene_key f e g s) time m pairs ext t)
does f e (view g s m) t = of_view (view_scene (scene_key f e g s) m t) t
does f e (remove g s m) t = of_result (remove_scene (scene_key f e g s) m t)
does f e (remove_all g m) t = of_result (remove_all_scenes (group_key f e g) m t)
does f e (store g s m captured) t = of_result (store_scene (scene_key f e g s) m captured t)
does f e (recall g s m o a) t =
    let r : SceneRead = recall_lookup (scene_key f e g s) m o t in
    of_recall r (recall_scene (scene_key f e g s) m a (with_state r.state t)) t
does f e (copy mode g s h r m n) t = of_result (copy_scene (copy_request f e mode g s h r) m n t)
does f e (membership g m buffer) t = of_list (get_scene_membership (group_key f e g) m buffer t) t
does f e (info single) t = of_info (read_fabric_scene_info f e single t) t

unfoldable pub step : Call → Table → Out
step (command f e c) t = does f e c t
step (notice e) t = of_result (scenable_attribute_changed e t)
step (removal f) t = of_result (remove_for_fabric f t)
step reset t = of_result (factory_reset t)
step start t = of_result (startup t)
step failSafeEvent t = of_result (fail_safe t)
step (load image) t = of_result (load_image image t)

abbrev pub answer : Call → Table → Answer
answer c t = (step c t).0

abbrev pub next : Call → Table → Table
next c t = (step c t).1

-- Q-3, in every run: a load of no bytes is a startup
abbrev pub NoBytesStart : Type 0
NoBytesStart = (t : Table) → step (load []) t ≡ step start t

-- ---- inputs of their widths: u8, u16, u32 and bytes

abbrev pub Bytes : List ℕ → Type 0
Bytes bs = count (λ b. leb (2 ^ 8) b) bs ≡ 0

abbrev pub override : Transition → ℕ
override None = 0
override (Some o) = o

abbrev pub CommandInRange : Command → Type 0
CommandInRange (add g s time m pairs ext) = (g < 2 ^ 16) × (s < 2 ^ 8) × (time < 2 ^ 32) × Bytes pairs × Bytes ext
CommandInRange (add_read g s time m pairs ext) = (g < 2 ^ 16) × (s < 2 ^ 8) × (time < 2 ^ 32) × Bytes pairs × Bytes ext
CommandInRange (view g s m) = (g < 2 ^ 16) × (s < 2 ^ 8)
CommandInRange (remove g s m) = (g < 2 ^ 16) × (s < 2 ^ 8)
CommandInRange (remove_all g m) = g < 2 ^ 16
CommandInRange (store g s m captured) = (g < 2 ^ 16) × (s < 2 ^ 8) × Bytes captured
CommandInRange (recall g s m o a) = (g < 2 ^ 16) × (s < 2 ^ 8) × (override o < 2 ^ 32)
CommandInRange (copy mode g s h r m n) = (mode < 2 ^ 8) × (g < 2 ^ 16) × (s < 2 ^ 8) × (h < 2 ^ 16) × (r < 2 ^ 8)
CommandInRange (membership g m buffer) = (g < 2 ^ 16) × Bytes buffer
CommandInRange (info single) = Unit {0}

abbrev pub InRange : Call → Type 0
InRange (command f e c) = (f < 2 ^ 8) × (e < 2 ^ 16) × CommandInRange c
InRange (notice e) = e < 2 ^ 16
InRange (removal f) = f < 2 ^ 8
InRange reset = Unit {0}
InRange start = Unit {0}
InRange failSafeEvent = Unit {0}
InRange (load image) = Bytes image
