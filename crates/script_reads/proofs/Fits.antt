-- The scene that a read answers lies in the table, and a list has no more ids than the table has entries, so that tails fit. Assumes nothing.
use Prim.Native.Nat.{ℕ, ◌≤◌}
use mathlib.Core.Path.{◌≡◌, refl}
use mathlib.Core.Bool.{Bool, true, false, cond}
use mathlib.Core.List.{List}
use native.Mathlib.Omega.{arith}
use lib.Dec.{eqb, ltb}
use lib.ListN.{length, get_or, take, length-map}
use borrow.Author.Tests.{eqb-true}
use Rattle.words.specs.Constants.{success, buffer_too_short, max_scenes, max_fields}
use Rattle.words.specs.Words.{scene_of, within, group_keys}
use Rattle.words.specs.Below.{kept_below}
use Rattle.words.proofs.Below.{kept_le}
use Rattle.std.specs.Prelude.{Option, Some, None}
use Rattle.words.specs.declared.SceneKey.{SceneKey}
use Rattle.words.specs.declared.GroupKey.{GroupKey}
use Rattle.slots.specs.Slots.{laid, scenes_inside}
use Rattle.requests.specs.declared.Membership.{Membership}
use Rattle.requests.specs.Requests.{membership_of, lookup_gate, group_gate}
use Rattle.reads.specs.Reads.{Transition}
use Rattle.std.specs.Prelude.{None}
use Rattle.reads.specs.declared.SceneRead.{SceneRead}
use Rattle.reads.specs.declared.ListRead.{ListRead}
use Rattle.reads.specs.declared.InfoRead.{InfoRead}
use Rattle.state.specs.Table.{Table}
use Rattle.state.specs.Sound.{sound}
use Rattle.state.specs.Capacity.{remaining}
use Rattle.state.specs.Change.{find_scene}
use Rattle.state.specs.Answer.{refusal_of, guarded}
use Rattle.reads.specs.Reads.{unread, read_at, view_scene, recall_lookup, Listed, listed_of, scene_ids, unlisted, list_ids, get_scene_membership, read_fabric_scene_info}
use Rattle.state.proofs.Laws.{sound_bounds, sound-length, found_under}
use Rattle.state.proofs.Guard.{passed-sound}
use Rattle.script_lines.specs.Values.{byte, short, value_at, scene_key, group_key}
use Rattle.script_answers.specs.declared.Row.{Row}
use Rattle.script_answers.specs.declared.Tail.TheVariants.{Nothing, Scene, Ids, NoRow, Info}
use Rattle.script_answers.specs.Answers.{fits}
use Rattle.script_answers.proofs.DoneLaws.{fit_called}
use Rattle.script_reads.specs.Reads.{transition, scene_tail, list_tail, info_tail, view, recall, list, list_in, info, query}

abbrev pub Within : SceneRead → Type 0
Within r = (r.at ≤ max_scenes) × (r.len ≤ max_fields)

-- a scene that was found in a sound table, and whatever is read behind a guard
module _ (t : Table) where
  read-within : (key : SceneKey) (o : Transition) → sound t ≡ true → (x : Option ℕ) → find_scene key t ≡ x → Within (read_at x o t)
  unfolding read_at
  read-within key o s (Some p) e =
      let u = found_under _ _ _ p e in
      let b = sound_bounds t s in
      (omega (arith, u, b.entries, b.most), sound-length t p s u)
  read-within key o s None e = (omega arith, omega arith)

  guarded-within : (gate : ℕ) (r : SceneRead) → (sound t ≡ true → Within r) → Within (guarded (unread t) (refusal_of t gate) r)
  unfolding guarded
  guarded-within gate r h =
      (elim (eqb (refusal_of t gate) success) as (λ b. eqb (refusal_of t gate) success ≡ b → Within (cond b r (unread t (refusal_of t gate)))) [
        | true ↦ λ e. h (passed-sound t gate (eqb-true _ _ e))
        | false ↦ λ e. (omega arith, omega arith)
      ]) refl

  pub view-within : (key : SceneKey) (m : Membership) → Within (view_scene key m t)
  unfolding view_scene
  view-within key m = guarded-within (lookup_gate key m) (read_at (find_scene key t) None t) (λ s. read-within key None s (find_scene key t) refl)

  pub lookup-within : (key : SceneKey) (m : Membership) (o : Transition) → Within (recall_lookup key m o t)
  unfolding recall_lookup
  lookup-within key m o = guarded-within (lookup_gate key m) (read_at (find_scene key t) o t) (λ s. read-within key o s (find_scene key t) refl)

  -- a list of a sound table has no more ids than the table has entries
  ids-within : (key : GroupKey) → sound t ≡ true → length (scene_ids key t) ≤ max_scenes
  unfolding scenes_inside
  ids-within key s =
      let b = sound_bounds t s in
      let inside : ℕ → Bool = λ i. within (group_keys key.fabric key.endpoint key.group) (get_or t.slots.keys i 0) in
      let l = length-map (kept_below inside t.state.entries) (λ i. scene_of (get_or t.slots.keys i 0)) in
      omega (arith, b.entries, b.most, l, kept_le inside t.state.entries)

  pub list-within : (key : GroupKey) (m : Membership) (buffer : List ℕ) → (get_scene_membership key m buffer t).read.len ≤ max_scenes
  unfolding get_scene_membership guarded list_ids
  list-within key m buffer =
      (elim (eqb (refusal_of t (group_gate key m)) success) as
      (λ b. eqb (refusal_of t (group_gate key m)) success ≡ b
      → (cond b (asked (ltb (length buffer) (length (scene_ids key t)))) (unlisted buffer t (refusal_of t (group_gate key m)))).read.len ≤ max_scenes) [
        | true ↦ λ e.
            elim (ltb (length buffer) (length (scene_ids key t))) as (λ b. (asked b).read.len ≤ max_scenes) [
              | true ↦ omega arith
              | false ↦ ids-within key (passed-sound t (group_gate key m) (eqb-true _ _ e))
            ]
        | false ↦ λ e. omega arith
      ]) refl
    where
      asked : Bool → Listed
      asked b =
          cond b (unlisted buffer t buffer_too_short)
          (listed_of (record {
            status = success;
            remaining = remaining t.state t.slots.keys key.fabric;
            len = length (scene_ids key t);
            state = t.state;
          }) (laid (scene_ids key t) buffer))

-- tails
pub scene-fits : (r : SceneRead) → Within r → fits (scene_tail r)
scene-fits r h =
    elim (eqb r.status success) as (λ b. fits (cond b (Scene r.time r.at r.len) Nothing)) [
      | true ↦ h
      | false ↦ tt
    ]

pub list-fits : (r : ListRead) → r.len ≤ max_scenes → fits (list_tail r)
list-fits r h =
    elim (eqb r.status success) as (λ b. fits (cond b (Ids r.remaining r.len) Nothing)) [
      | true ↦ h
      | false ↦ tt
    ]

info-fits : (r : InfoRead) → fits (info_tail r)
info-fits r =
    let row : Row = record { count = r.count; group = r.group; scene = r.scene; valid = r.valid; remaining = r.remaining; fabric = r.fabric } in
    elim (eqb r.status success) as (λ b. fits (cond b (cond r.present (Info row) NoRow) Nothing)) [
      | true ↦
          elim r.present as (λ b. fits (cond b (Info row) NoRow)) [
            | true ↦ tt
            | false ↦ tt
          ]
      | false ↦ tt
    ]

pub query-fits : (letter : ℕ) (values buffer : List ℕ) (t : Table) → fits (query letter values buffer t).done.tail
unfolding query view recall list list_in info
query-fits letter values buffer t =
    let key : SceneKey = scene_key values in
    let m : Membership = membership_of (byte (value_at values 4)) in
    fit_called (eqb letter 86) _ _ (scene-fits (view_scene key m t) (view-within t key m))
    (fit_called (eqb letter 76) _ _ (scene-fits (recall_lookup key m (transition (value_at values 5)) t)
    (lookup-within t key m (transition (value_at values 5))))
    (fit_called (eqb letter 77) _ _ (list-fits (get_scene_membership (group_key values) (membership_of (byte (value_at values 3)))
    (take (value_at values 4) buffer) t).read
    (list-within t (group_key values) (membership_of (byte (value_at values 3))) (take (value_at values 4) buffer)))
    (info-fits (read_fabric_scene_info (byte (value_at values 0)) (short (value_at values 1)) (eqb (value_at values 2) 1) t))))
