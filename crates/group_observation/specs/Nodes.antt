-- A scene table with the memberships beside it, which document 02 calls a box, and the calls on both: what a member learns from each, and what each
-- leaves. Each is one of the definitions that the contracts cite, applied; there is no other definition of a call. Document 02, Q-7.
use Rattle.std.specs.Prelude.{ℕ, ◌^◌, ◌<◌, Bool, true, false, List, []}
use Rattle.state.specs.Table.{Table}
use Rattle.commands.specs.declared.Applied.{Applied}
use Rattle.reads.specs.Reads.{Transition}
use Rattle.reads.specs.declared.SceneRead.{SceneRead}
use Rattle.reads.specs.Reads.{read_fabric_scene_info}
use Rattle.groups.specs.Groups.{Groups, Joined, join_group}
use Rattle.asking.specs.Asking.{Both, add_asking, add_read_asking, store_asking, remove_asking, remove_all_asking, recall_asking, lookup_asking, view_asking, copy_asking, membership_asking, leave_group, remove_for_fabric_both, factory_reset_both}
use Rattle.observation.specs.Calls as calls
use Rattle.observation.specs.Calls.{Answer, with_state, of_result, of_view, of_recall, of_list, of_info, scene_key, group_key, copy_request, Bytes, override}

pub record Node : Type 0 where
  pub scenes : Table
  pub groups : Groups

-- a fabric's command or read on one of its endpoints: the membership is asked for. Joins and leaves are among them
pub data Command : Type 0 where
  add : (group scene time : ℕ) → (pairs ext : List ℕ) → Command
  add_read : (group scene time : ℕ) → (pairs ext : List ℕ) → Command
  view : (group scene : ℕ) → Command
  remove : (group scene : ℕ) → Command
  remove_all : (group : ℕ) → Command
  store : (group scene : ℕ) → (captured : List ℕ) → Command
  recall : (group scene : ℕ) → Transition → Applied → Command
  copy : (mode group scene to_group to_scene : ℕ) → Command
  membership : (group : ℕ) → (buffer : List ℕ) → Command
  info : (single : Bool) → Command
  join : (group : ℕ) → Command
  leave : (group : ℕ) → Command

-- any call: a command, what changes scenes and memberships together, and a call of the scenes alone, which is a notice or a lifecycle event, a load or
-- a command whose membership is an input
pub data Call : Type 0 where
  command : (fabric endpoint : ℕ) → Command → Call
  removal : (fabric : ℕ) → Call
  reset : Call
  on_scenes : calls.Call → Call

-- ---- one call

abbrev pub Out : Type 0
Out = Answer × Node

-- the memberships stay
abbrev pub kept : Groups → calls.Out → Out
kept g o = (o.0, record { scenes = o.1; groups = g })

abbrev pub of_joined : Table → Joined → Out
of_joined t j = (record { status = j.status; save = false; values = []; ids = [] }, record { scenes = t; groups = j.groups })

abbrev pub of_both : Both → Out
of_both b = kept b.groups (of_result b.result)

unfoldable pub does : ℕ → ℕ → Command → Groups → Table → Out
does f e (add g s time pairs ext) gs t = kept gs (of_result (add_asking (scene_key f e g s) time pairs ext gs t))
does f e (add_read g s time pairs ext) gs t = kept gs (of_result (add_read_asking (scene_key f e g s) time pairs ext gs t))
does f e (view g s) gs t = kept gs (of_view (view_asking (scene_key f e g s) gs t) t)
does f e (remove g s) gs t = kept gs (of_result (remove_asking (scene_key f e g s) gs t))
does f e (remove_all g) gs t = kept gs (of_result (remove_all_asking (group_key f e g) gs t))
does f e (store g s captured) gs t = kept gs (of_result (store_asking (scene_key f e g s) captured gs t).result)
does f e (recall g s o a) gs t =
    let r : SceneRead = lookup_asking (scene_key f e g s) o gs t in
    kept gs (of_recall r (recall_asking (scene_key f e g s) a gs (with_state r.state t)) t)
does f e (copy mode g s h r) gs t = kept gs (of_result (copy_asking (copy_request f e mode g s h r) gs t))
does f e (membership g buffer) gs t = kept gs (of_list (membership_asking (group_key f e g) buffer gs t) t)
does f e (info single) gs t = kept gs (of_info (read_fabric_scene_info f e single t) t)
does f e (join g) gs t = of_joined t (join_group (group_key f e g) gs)
does f e (leave g) gs t = of_both (leave_group (group_key f e g) gs t)

unfoldable pub step : Call → Node → Out
step (command f e c) n = does f e c n.groups n.scenes
step (removal f) n = of_both (remove_for_fabric_both f n.groups n.scenes)
step reset n = of_both (factory_reset_both n.groups n.scenes)
step (on_scenes c) n = kept n.groups (calls.step c n.scenes)

abbrev pub answer : Call → Node → Answer
answer c n = (step c n).0

abbrev pub next : Call → Node → Node
next c n = (step c n).1

-- ---- inputs of their widths

abbrev pub CommandInRange : Command → Type 0
CommandInRange (add g s time pairs ext) = (g < 2 ^ 16) × (s < 2 ^ 8) × (time < 2 ^ 32) × Bytes pairs × Bytes ext
CommandInRange (add_read g s time pairs ext) = (g < 2 ^ 16) × (s < 2 ^ 8) × (time < 2 ^ 32) × Bytes pairs × Bytes ext
CommandInRange (view g s) = (g < 2 ^ 16) × (s < 2 ^ 8)
CommandInRange (remove g s) = (g < 2 ^ 16) × (s < 2 ^ 8)
CommandInRange (remove_all g) = g < 2 ^ 16
CommandInRange (store g s captured) = (g < 2 ^ 16) × (s < 2 ^ 8) × Bytes captured
CommandInRange (recall g s o a) = (g < 2 ^ 16) × (s < 2 ^ 8) × (override o < 2 ^ 32)
CommandInRange (copy mode g s h r) = (mode < 2 ^ 8) × (g < 2 ^ 16) × (s < 2 ^ 8) × (h < 2 ^ 16) × (r < 2 ^ 8)
CommandInRange (membership g buffer) = (g < 2 ^ 16) × Bytes buffer
CommandInRange (info single) = Unit {0}
CommandInRange (join g) = g < 2 ^ 16
CommandInRange (leave g) = g < 2 ^ 16

abbrev pub InRange : Call → Type 0
InRange (command f e c) = (f < 2 ^ 8) × (e < 2 ^ 16) × CommandInRange c
InRange (removal f) = f < 2 ^ 8
InRange reset = Unit {0}
InRange (on_scenes c) = calls.InRange c

-- a load; a command that is told its membership. Both fill the scenes without asking
abbrev pub loads : Call → Bool
loads (command f e c) = false
loads (removal f) = false
loads reset = false
loads (on_scenes (calls.command f e c)) = false
loads (on_scenes (calls.notice e)) = false
loads (on_scenes (calls.removal f)) = false
loads (on_scenes calls.reset) = false
loads (on_scenes calls.start) = false
loads (on_scenes calls.failSafeEvent) = false
loads (on_scenes (calls.load image)) = true

abbrev pub is_told : Call → Bool
is_told (command f e c) = false
is_told (removal f) = false
is_told reset = false
is_told (on_scenes (calls.command f e c)) = true
is_told (on_scenes (calls.notice e)) = false
is_told (on_scenes (calls.removal f)) = false
is_told (on_scenes calls.reset) = false
is_told (on_scenes calls.start) = false
is_told (on_scenes calls.failSafeEvent) = false
is_told (on_scenes (calls.load image)) = false
