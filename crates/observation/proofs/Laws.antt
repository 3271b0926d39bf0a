-- What each call does, over the view of a sound table: the laws on which the equivalence rests, as statements. `sees` is what a call
-- answers and leaves to be seen. Assumes nothing: this is a list of statements.
use Prim.Native.Nat.{ℕ, ◌^◌, ◌<◌}
use mathlib.Core.Path.{◌≡◌}
use mathlib.Core.Bool.{Bool, true, false, cond, not, ◌&&◌, ◌||◌}
use mathlib.Core.List.{List, [], ◌∷◌, ◌++◌, map}
use lib.Dec.{eqb, ltb}
use lib.ListN.{length}
use Rattle.words.specs.Constants.{success, insufficient_space, not_found, no_fabric, buffer_too_short, end_of_container}
use Rattle.words.specs.Words.{word_of, group_keys}
use Rattle.records.specs.declared.Scope.TheVariants.{Scene, Group, Endpoint}
use Rattle.requests.specs.declared.Membership.{Membership}
use Rattle.commands.specs.declared.Applied.{Applied}
use Rattle.reads.specs.Reads.{Transition}
use Rattle.state.specs.Table.{Table}
use Rattle.state.specs.Sound.{sound}
use Rattle.observation.specs.Lists.{find, keep}
use Rattle.observation.specs.Calls.{Command, add, add_read, view, remove, remove_all, store, recall, copy, membership, info, Call, command, notice, removal, reset, start, failSafeEvent, load, next, scene_key, group_key, Bytes, CommandInRange, InRange}
use Rattle.observation.specs.Equivalence.{key_is, mine, of_fabric}
use Rattle.observation.proofs.Lists.{has, take_out}
use Rattle.observation.proofs.Lookups.{holds, entry_of}
use Rattle.observation.proofs.Changes.{View, view_of, room_in, place_for, stepped, entries_set, written, invalidated, remembered}
use Rattle.observation.proofs.Effects.{sees, refuse, done, gate_of, time_of, viewed, applied, recalled, add_out, sources, target, scope_of, copy_out, ids_in, remaining_in, info_out, started, loaded}

-- the laws of one fabric's commands on one endpoint, of one sound table whose view is v
pub record CommandLaws (f e : ℕ) (t : Table) (v : View) : Type 0 where
  pub refused_acts : (c : Command) → CommandInRange c → (gate_of f e c ≡ 0 → ⊥) → sees (command f e c) t ≡ (refuse (gate_of f e c), v)
  pub add_acts : (g s time : ℕ) (m : Membership) (pairs ext : List ℕ) → CommandInRange (add g s time m pairs ext) → gate_of f e (add g s time m pairs ext) ≡ 0
      → sees (command f e (add g s time m pairs ext)) t ≡ add_out (scene_key f e g s) time ext v
  pub add_read_acts : (g s time : ℕ) (m : Membership) (pairs ext : List ℕ) → CommandInRange (add_read g s time m pairs ext)
      → gate_of f e (add_read g s time m pairs ext) ≡ 0 → sees (command f e (add_read g s time m pairs ext)) t ≡ add_out (scene_key f e g s) time ext v
  pub view_acts : (g s : ℕ) (m : Membership) → CommandInRange (view g s m) → gate_of f e (view g s m) ≡ 0
      → sees (command f e (view g s m)) t ≡ (viewed (find (key_is (word_of (scene_key f e g s))) v.entries), v)
  pub remove_acts : (g s : ℕ) (m : Membership) → CommandInRange (remove g s m) → gate_of f e (remove g s m) ≡ 0
      → sees (command f e (remove g s m)) t
      ≡ cond (has (key_is (word_of (scene_key f e g s))) v.entries)
      (done true, invalidated (Scene (scene_key f e g s)) (entries_set (take_out (key_is (word_of (scene_key f e g s))) v.entries) v))
      (refuse not_found, v)
  pub remove_all_acts : (g : ℕ) (m : Membership) → CommandInRange (remove_all g m) → gate_of f e (remove_all g m) ≡ 0
      → sees (command f e (remove_all g m)) t
      ≡ cond (has (holds (group_keys f e g)) v.entries)
      (done true, invalidated (Group (group_key f e g)) (entries_set (keep (λ x. not (holds (group_keys f e g) x)) v.entries) v))
      (done false, v)
  pub store_acts : (g s : ℕ) (m : Membership) (captured : List ℕ) → CommandInRange (store g s m captured) → gate_of f e (store g s m captured) ≡ 0
      → sees (command f e (store g s m captured)) t
      ≡ cond (place_for f (word_of (scene_key f e g s)) v) (
        done true,
        remembered (scene_key f e g s)
            (invalidated (Scene (scene_key f e g s))
            (written (entry_of (scene_key f e g s) (time_of (find (key_is (word_of (scene_key f e g s))) v.entries)) (captured ++ (end_of_container ∷ []))) v)),
      )
      (refuse insufficient_space, v)
  pub recall_acts : (g s : ℕ) (m : Membership) (o : Transition) (a : Applied) → CommandInRange (recall g s m o a) → gate_of f e (recall g s m o a) ≡ 0
      → sees (command f e (recall g s m o a)) t
      ≡ (
        recalled o a (find (key_is (word_of (scene_key f e g s))) v.entries),
        cond (has (key_is (word_of (scene_key f e g s))) v.entries && applied a) (remembered (scene_key f e g s) v) v,
      )
  pub copy_acts : (mode g s h r : ℕ) (m n : Membership) → CommandInRange (copy mode g s h r m n) → gate_of f e (copy mode g s h r m n) ≡ 0
      → sees (command f e (copy mode g s h r m n)) t
      ≡ cond (eqb (room_in f v) 0) (refuse insufficient_space, v)
      (copy_out f (scope_of f e mode h r) (map (target f e mode h r) (sources f e mode g s v)) v)
  pub membership_acts : (g : ℕ) (m : Membership) (buffer : List ℕ) → CommandInRange (membership g m buffer) → gate_of f e (membership g m buffer) ≡ 0
      → sees (command f e (membership g m buffer)) t
      ≡ cond (ltb (length buffer) (length (ids_in f e g v))) (refuse buffer_too_short, v)
      (record { status = success; save = false; values = remaining_in f v ∷ []; ids = ids_in f e g v }, v)
  pub info_acts : (single : Bool) → gate_of f e (info single) ≡ 0 → sees (command f e (info single)) t ≡ (info_out f e v, v)

-- the laws of the other calls, of one sound table whose view is v
pub record EventLaws (t : Table) (v : View) : Type 0 where
  pub notice_acts : (e : ℕ) → e < 2 ^ 16 → sees (notice e) t ≡ (done false, invalidated (Endpoint e) v)
  pub removal-refused : sees (removal 0) t ≡ (refuse no_fabric, v)
  pub removal_acts : (f : ℕ) → f < 2 ^ 8 → (f ≡ 0 → ⊥)
      → sees (removal f) t
      ≡ (
        done (has (mine f) v.entries || has (of_fabric f) v.records),
        record {
          size = v.size;
          modes = v.modes;
          dataver = cond (has (mine f) v.entries || has (of_fabric f) v.records) (stepped v.dataver) v.dataver;
          entries = keep (λ x. not (mine f x)) v.entries;
          records = keep (λ w. not (of_fabric f w)) v.records;
        },
      )
  pub reset_acts : sees reset t ≡ (done false, record { size = v.size; modes = v.modes; dataver = stepped v.dataver; entries = []; records = [] })
  pub start_acts : sees start t ≡ started v
  pub fail_safe_acts : sees failSafeEvent t ≡ (done false, v)
  pub load_acts : (image : List ℕ) → Bytes image → sees (load image) t ≡ loaded image v

pub record Laws : Type 0 where
  pub commands : (f e : ℕ) (t : Table) → sound t ≡ true → f < 2 ^ 8 → e < 2 ^ 16 → CommandLaws f e t (view_of t)
  pub events : (t : Table) → sound t ≡ true → EventLaws t (view_of t)
  pub step-sound : (c : Call) (t : Table) → InRange c → sound t ≡ true → sound (next c t) ≡ true
