-- Demand 1: for each call, the numbers that it can answer, and no others, whatever its inputs and the table. Assumes nothing.
use Prim.Native.Nat.{ℕ, zero, suc, ◌+◌}
use mathlib.Core.Path.{◌≡◌, refl, sym, subst}
use mathlib.Core.Bool.{Bool, true, false, cond, not, ◌||◌}
use mathlib.Core.List.{List, [], ◌∷◌, ◌++◌, map}
use lib.Dec.{eqb, ltb, leb}
use lib.ListN.{length, get_or}
use Rattle.words.specs.Constants.{success, invalid_command, constraint_error, insufficient_space, not_found, no_fabric, membership_failed, capture_too_long, apply_failed, single_element, unsound, bad_pair, buffer_too_short, bad_image, clashing_image, bad_field_sets, not_scenable, cluster_unknown, global_scene, reserved_scene, max_time, max_fields}
use Rattle.words.specs.Words.{word_of, group_keys, endpoint_keys}
use Rattle.std.specs.Prelude.{Option as Maybe, Some, None}
use Rattle.words.specs.declared.SceneKey.{SceneKey}
use Rattle.words.specs.declared.GroupKey.{GroupKey}
use Rattle.slots.specs.Slots.{first_key, count_keys}
use Rattle.records.specs.Records.{first_owned}
use Rattle.requests.specs.declared.Membership.{Membership}
use Rattle.requests.specs.declared.Membership.TheVariants.{Yes, No, Failed}
use Rattle.requests.specs.declared.CopyRequest.{CopyRequest}
use Rattle.requests.specs.Requests.{or_next, first_refusal, refuse_if, member_gate, pair_gate, pairs_gate, scene_gate, fields_gate, copied_gate, whole_group, add_gate, store_gate, lookup_gate, group_gate, copy_gate, info_gate, fabric_gate}
use Rattle.commands.specs.declared.Applied.{Applied}
use Rattle.reads.specs.Reads.{Transition}
use Rattle.reads.specs.declared.SceneRead.{SceneRead}
use Rattle.reads.specs.declared.InfoRead.{InfoRead}
use Rattle.state.specs.Table.{Table, Entries, with_entries}
use Rattle.state.specs.Sound.{sound}
use Rattle.state.specs.Capacity.{may_append, room_for}
use Rattle.state.specs.Change.{find_scene, Upserted, upsert_at, upsert, retain_outside}
use Rattle.state.specs.Answer.{Result, refused, refusal_of, guarded}
use Rattle.commands.specs.Commands.{add_scene, stored, store_captured, store_scene, remove_found, remove_scene, removed_all, remove_all_scenes, recall_found, recall_scene}
use Rattle.commands.specs.declared.Applied.TheVariants as applied
use Rattle.copies.specs.Copy.{Copied, copy_to, copy_entry, copy_found, copy_single, copy_walk, is_source, key_in, source_group, target_group, source_key, target_key, copy_sources, copied, copy_scenes_inner, copy_scene}
use Rattle.reads.specs.Reads.{read_at, recall_lookup, view_scene, Listed, scene_ids, list_ids, get_scene_membership, info_row, read_fabric_scene_info}
use Rattle.image_reader.specs.Image.{Image, image_in}
use Rattle.image_save.specs.Saving.{image_of, Saved, unsaved, save_image}
use Rattle.image_gate.specs.Verdict.{clashes, verdict}
use Rattle.image_load.specs.Loading.{load_tlv, load_image}
use Rattle.field_sets.specs.Reader.{sets_in, holds_pairs}
use Rattle.add_read.specs.Adding.{field_sets_gate, add_read_gate, add_scene_read}
use Rattle.lifecycle.specs.Lifecycle.{scenable_attribute_changed, removed_fabric, remove_for_fabric, factory_reset, startup, fail_safe}
use Rattle.observation.specs.Numbers.{Among, failing}
use Rattle.std.proofs.Common.{Option, Some, None}

-- what holds in both cases of a test
pub either : {A : Type 0} (P : A → Type 0) (b : Bool) {x y : A} → P x → P y → P (cond b x y)
either P true p q = p
either P false p q = q

-- ---- what a request alone decides

module _ (P : ℕ → Type 0) (zero_is : P success) where
  abbrev Each : List ℕ → Type 0
  Each [] = Unit {0}
  Each (n ∷ ns) = P n × Each ns

  first_each : (ns : List ℕ) → Each ns → P (first_refusal ns)
  unfolding first_refusal or_next
  first_each [] e = zero_is
  first_each (n ∷ ns) e = either P (eqb n success) (first_each ns e.1) e.0

  refuse_if_lem : (b : Bool) (n : ℕ) → P n → P (refuse_if b n)
  refuse_if_lem b n p = either P b p zero_is

  fabric_is : P no_fabric → (fabric : ℕ) → P (fabric_gate fabric)
  fabric_is none fabric = refuse_if_lem (eqb fabric 0) no_fabric none

  scene_is : P constraint_error → (scene : ℕ) → P (scene_gate scene)
  scene_is reserved scene = refuse_if_lem (eqb scene global_scene || eqb scene reserved_scene) constraint_error reserved

  member_is : P invalid_command → (m : Membership) → (m ≡ Failed → P membership_failed) → (g : ℕ) → P (member_gate g m)
  unfolding member_gate
  member_is never Yes failed g = either P (eqb g 0) zero_is zero_is
  member_is never No failed g = either P (eqb g 0) zero_is never
  member_is never Failed failed g = either P (eqb g 0) zero_is (failed refl)

  pairs_are : P invalid_command → P bad_pair → (pairs : List ℕ) → P (pairs_gate pairs)
  unfolding pairs_gate
  pairs_are never bad pairs = first_each (map pair_gate pairs) (go pairs)
    where
      go : (ps : List ℕ) → Each (map pair_gate ps)
      go [] = tt
      go (p ∷ ps) = (either P (eqb p not_scenable) never (refuse_if_lem (ltb cluster_unknown p) bad_pair bad), go ps)

  -- the gates of the calls that may write a new entry
  module _ (none : P no_fabric) (reserved : P constraint_error) (never : P invalid_command) (m : Membership) (failed : m ≡ Failed → P membership_failed) where
    pub add_gate_is : P bad_pair → (key : SceneKey) (time : ℕ) (pairs : List ℕ) (len : ℕ) → P (fields_gate max_fields len) → P (add_gate key time m pairs max_fields len)
    unfolding add_gate
    add_gate_is bad key time pairs len fields =
        first_each _ (
          fabric_is none key.fabric,
          (
            scene_is reserved key.scene,
            (
              refuse_if_lem (ltb max_time time) constraint_error reserved,
              (member_is never m failed key.group, (pairs_are never bad pairs, (fields, tt))),
            ),
          ),
        )

    pub add_read_gate_is : P bad_pair → P bad_field_sets → (key : SceneKey) (time : ℕ) (pairs ext : List ℕ) → P (fields_gate max_fields (length ext))
        → P (add_read_gate key time m pairs max_fields ext)
    unfolding add_read_gate field_sets_gate
    add_read_gate_is bad eleven key time pairs ext fields =
        first_each _ (
          fabric_is none key.fabric,
          (
            scene_is reserved key.scene,
            (
              refuse_if_lem (ltb max_time time) constraint_error reserved,
              (member_is never m failed key.group, (refuse_if_lem (not (holds_pairs (length pairs) (sets_in ext))) bad_field_sets eleven, (pairs_are never bad pairs, (fields, tt)))),
            ),
          ),
        )

    pub store_gate_is : P capture_too_long → (key : SceneKey) (len : ℕ) → P (store_gate key m max_fields len)
    unfolding store_gate
    store_gate_is long key len =
        first_each _ (
          fabric_is none key.fabric,
          (
            scene_is reserved key.scene,
            (
              member_is never m failed key.group,
              (refuse_if_lem (ltb max_fields (len + 1)) capture_too_long long, tt),
            ),
          ),
        )

    pub copy_gate_is : (c : CopyRequest) (n : Membership) → (n ≡ Failed → P membership_failed) → P (copy_gate c m n)
    unfolding copy_gate
    copy_gate_is c n failed' =
        let copied-gate : (s : ℕ) → P (copied_gate c.mode s) = λ s. either P (whole_group c.mode) zero_is (scene_is reserved s) in
        first_each _ (
          fabric_is none c.fabric,
          (
            copied-gate c.from.scene,
            (
              copied-gate c.to.scene,
              (member_is never m failed c.from.group, (member_is never n failed' c.to.group, tt)),
            ),
          ),
        )

  -- fault 6, the request's refusal, or what the table decides
  guarded_is : {A : Type 0} (status : A → ℕ) (refuse : ℕ → A) → ((n : ℕ) → status (refuse n) ≡ n) → (t : Table) (gate : ℕ) (o : A)
      → P unsound → P gate → P (status o) → P (status (guarded refuse (refusal_of t gate) o))
  unfolding guarded refusal_of
  guarded_is status refuse same t gate o six g p =
      let n : ℕ = cond (sound t) gate unsound in
      let r : P n = either P (sound t) g six in
      either (λ a. P (status a)) (eqb n success) p (rw (same n) r)

-- ---- what the table decides

module _ (P : ℕ → Type 0) (done : P success) where
  pub upsert_is : P insufficient_space → (key : SceneKey) (time : ℕ) (ext : List ℕ) (t : Table) → P (upsert key time ext t).status
  unfolding upsert upsert_at
  upsert_is full key time ext t = go (find_scene key t)
    where
      go : (f : Maybe ℕ) → P (upsert_at f key time ext t).status
      go (Some i) = done
      go None = either (λ (u : Upserted). P u.status) (may_append t.state t.slots.keys key.fabric) done full

  stored_is : (key : SceneKey) (u : Upserted) → P u.status → P (stored key u).status
  unfolding stored
  stored_is key u p = either (λ (r : Result). P r.status) (eqb u.status success) done p

  removed_is : P not_found → (f : Maybe ℕ) (key : SceneKey) (t : Table) → P (remove_found f key t).status
  unfolding remove_found
  removed_is none (Some i) key t = done
  removed_is none None key t = none

  recalled_is : P not_found → P apply_failed → (f : Maybe ℕ) (key : SceneKey) (a : Applied) (t : Table) → P (recall_found f key a t).status
  unfolding recall_found
  recalled_is none failed None key a t = none
  recalled_is none failed (Some i) key applied.Failed t = failed
  recalled_is none failed (Some i) key applied.Yes t = done

  read_is : P not_found → (f : Maybe ℕ) (o : Transition) (t : Table) → P (read_at f o t).status
  unfolding read_at
  read_is none (Some i) o t = done
  read_is none None o t = none

  row_is : (f : Maybe ℕ) (fabric n : ℕ) (t : Table) → P (info_row f fabric n t).status
  unfolding info_row
  row_is (Some i) fabric n t = done
  row_is None fabric n t = either (λ (r : InfoRead). P r.status) (eqb n 0) done done

  list_is : P buffer_too_short → (l : List ℕ) (left : ℕ) (buffer : List ℕ) (t : Table) → P (list_ids l left buffer t).read.status
  unfolding list_ids
  list_is long l left buffer t = either (λ (x : Listed). P x.read.status) (ltb (length buffer) (length l)) long done

  module _ (none : P not_found) (full : P insufficient_space) where
    entry_is : (i : ℕ) (key : SceneKey) (e : Entries) → P (copy_entry i key e).status
    unfolding copy_entry copy_to
    entry_is i key e = go (first_key e.slots.keys e.state.entries (word_of key))
      where
        go : (f : Maybe ℕ) → P (copy_to f i key e).status
        go (Some p) = done
        go None = either (λ (c : Copied). P c.status) (eqb (room_for e.state e.slots.keys key.fabric) 0) full done

    walk_is : (from to : GroupKey) (k i status : ℕ) (e : Entries) → P status → P (copy_walk from to k i status e).status
    unfolding copy_walk
    walk_is from to zero i status e p = p
    walk_is from to (suc k) i status e p =
        let o : Copied = copy_entry i (key_in to (get_or e.slots.keys i 0)) e in
        either (λ (c : Copied). P c.status) (is_source from (get_or e.slots.keys i 0))
        (either (λ (c : Copied). P c.status) (eqb o.status success) (walk_is from to k (suc i) success o.entries done) (entry_is i (key_in to (get_or e.slots.keys i 0)) e))
        (walk_is from to k (suc i) status e p)

    single_is : (from to : SceneKey) (e : Entries) → P (copy_single from to e).status
    unfolding copy_single copy_found
    single_is from to e = go (first_key e.slots.keys e.state.entries (word_of from))
      where
        go : (f : Maybe ℕ) → P (copy_found f to e).status
        go (Some i) = entry_is i to e
        go None = none

    sources_are : (c : CopyRequest) (e : Entries) → P (copy_sources c e).status
    unfolding copy_sources
    sources_are c e =
        either (λ (o : Copied). P o.status) (whole_group c.mode) (walk_is (source_group c) (target_group c) e.state.entries 0 not_found e none) (single_is (source_key c) (target_key c) e)

    inner_is : (c : CopyRequest) (t : Table) → P (copy_scenes_inner c t).status
    unfolding copy_scenes_inner copied
    inner_is c t =
        let e : Entries = record { state = t.state; slots = t.slots } in
        either (λ (r : Result). P r.status) (eqb (room_for t.state t.slots.keys c.fabric) 0) full
        (either (λ (r : Result). P r.status) (eqb (copy_sources c e).status success) done (sources_are c e))

-- ---- the calls

-- 2, where the membership failed
two : {m : Membership} (Q : Membership → ℕ → Type 0) → Q Failed membership_failed → m ≡ Failed → Q m membership_failed
two Q z e = subst (λ (x : Membership). Q x membership_failed) (sym e) z

module _ (key : SceneKey) (m : Membership) (t : Table) where
  pub add-numbers : (time : ℕ) (pairs ext : List ℕ) → Among (0 ∷ 1 ∷ 6 ∷ 7 ∷ 0x85 ∷ 0x87 ∷ 0x89 ∷ failing m) (add_scene key time m pairs ext t).status
  unfolding add_scene
  add-numbers time pairs ext =
      let Q : Membership → ℕ → Type 0 = λ x. Among (0 ∷ 1 ∷ 6 ∷ 7 ∷ 0x85 ∷ 0x87 ∷ 0x89 ∷ failing x) in
      let P = Q m in
      guarded_is P refl (λ (r : Result). r.status) (refused t) (λ n. refl) t _ _ refl
      (add_gate_is P refl refl refl refl m (two Q refl) refl key time pairs (length ext) (refuse_if_lem P refl (ltb max_fields (length ext)) insufficient_space refl))
      (upsert_is P refl refl key time ext t)

  -- an add's numbers and 11
  pub add_read-numbers : (time : ℕ) (pairs ext : List ℕ) → Among (0 ∷ 1 ∷ 6 ∷ 7 ∷ 11 ∷ 0x85 ∷ 0x87 ∷ 0x89 ∷ failing m) (add_scene_read key time m pairs ext t).status
  unfolding add_scene_read
  add_read-numbers time pairs ext =
      let Q : Membership → ℕ → Type 0 = λ x. Among (0 ∷ 1 ∷ 6 ∷ 7 ∷ 11 ∷ 0x85 ∷ 0x87 ∷ 0x89 ∷ failing x) in
      let P = Q m in
      guarded_is P refl (λ (r : Result). r.status) (refused t) (λ n. refl) t _ _ refl
      (add_read_gate_is P refl refl refl refl m (two Q refl) refl refl key time pairs ext (refuse_if_lem P refl (ltb max_fields (length ext)) insufficient_space refl))
      (upsert_is P refl refl key time ext t)

  pub store-numbers : (captured : List ℕ) → Among (0 ∷ 1 ∷ 3 ∷ 6 ∷ 0x85 ∷ 0x87 ∷ 0x89 ∷ failing m) (store_scene key m captured t).status
  unfolding store_scene store_captured
  store-numbers captured =
      let Q : Membership → ℕ → Type 0 = λ x. Among (0 ∷ 1 ∷ 3 ∷ 6 ∷ 0x85 ∷ 0x87 ∷ 0x89 ∷ failing x) in
      let P = Q m in
      guarded_is P refl (λ (r : Result). r.status) (refused t) (λ n. refl) t _ _ refl
      (store_gate_is P refl refl refl refl m (two Q refl) refl key (length captured))
      (stored_is P refl key _ (upsert_is P refl refl key _ _ t))

  -- view, remove and recall have one gate
  lookup_is : (P : ℕ → Type 0) → P success → P no_fabric → P constraint_error → P invalid_command → (m ≡ Failed → P membership_failed) → P (lookup_gate key m)
  unfolding lookup_gate
  lookup_is P zero_is none reserved never failed =
      first_each P zero_is _ (fabric_is P zero_is none key.fabric, (scene_is P zero_is reserved key.scene, (member_is P zero_is never m failed key.group, tt)))

  pub view-numbers : Among (0 ∷ 1 ∷ 6 ∷ 0x85 ∷ 0x87 ∷ 0x8B ∷ failing m) (view_scene key m t).status
  unfolding view_scene
  view-numbers =
      let Q : Membership → ℕ → Type 0 = λ x. Among (0 ∷ 1 ∷ 6 ∷ 0x85 ∷ 0x87 ∷ 0x8B ∷ failing x) in
      let P = Q m in
      guarded_is P refl (λ (r : SceneRead). r.status) _ (λ n. refl) t _ _ refl (lookup_is P refl refl refl refl (two Q refl)) (read_is P refl refl (find_scene key t) _ t)

  pub lookup-numbers : (o : Transition) → Among (0 ∷ 1 ∷ 6 ∷ 0x85 ∷ 0x87 ∷ 0x8B ∷ failing m) (recall_lookup key m o t).status
  unfolding recall_lookup
  lookup-numbers o =
      let Q : Membership → ℕ → Type 0 = λ x. Among (0 ∷ 1 ∷ 6 ∷ 0x85 ∷ 0x87 ∷ 0x8B ∷ failing x) in
      let P = Q m in
      guarded_is P refl (λ (r : SceneRead). r.status) _ (λ n. refl) t _ _ refl (lookup_is P refl refl refl refl (two Q refl)) (read_is P refl refl (find_scene key t) o t)

  pub remove-numbers : Among (0 ∷ 1 ∷ 6 ∷ 0x85 ∷ 0x87 ∷ 0x8B ∷ failing m) (remove_scene key m t).status
  unfolding remove_scene
  remove-numbers =
      let Q : Membership → ℕ → Type 0 = λ x. Among (0 ∷ 1 ∷ 6 ∷ 0x85 ∷ 0x87 ∷ 0x8B ∷ failing x) in
      let P = Q m in
      guarded_is P refl (λ (r : Result). r.status) (refused t) (λ n. refl) t _ _ refl (lookup_is P refl refl refl refl (two Q refl)) (removed_is P refl refl (find_scene key t) key t)

  pub recall-numbers : (a : Applied) → Among (0 ∷ 1 ∷ 4 ∷ 6 ∷ 0x85 ∷ 0x87 ∷ 0x8B ∷ failing m) (recall_scene key m a t).status
  unfolding recall_scene
  recall-numbers a =
      let Q : Membership → ℕ → Type 0 = λ x. Among (0 ∷ 1 ∷ 4 ∷ 6 ∷ 0x85 ∷ 0x87 ∷ 0x8B ∷ failing x) in
      let P = Q m in
      guarded_is P refl (λ (r : Result). r.status) (refused t) (λ n. refl) t _ _ refl (lookup_is P refl refl refl refl (two Q refl)) (recalled_is P refl refl refl (find_scene key t) key a t)

module _ (key : GroupKey) (m : Membership) (t : Table) where
  group_is : (P : ℕ → Type 0) → P success → P no_fabric → P invalid_command → (m ≡ Failed → P membership_failed) → P (group_gate key m)
  unfolding group_gate
  group_is P zero_is none never failed = first_each P zero_is _ (fabric_is P zero_is none key.fabric, (member_is P zero_is never m failed key.group, tt))

  pub remove_all-numbers : Among (0 ∷ 1 ∷ 6 ∷ 0x85 ∷ failing m) (remove_all_scenes key m t).status
  unfolding remove_all_scenes removed_all
  remove_all-numbers =
      let Q : Membership → ℕ → Type 0 = λ x. Among (0 ∷ 1 ∷ 6 ∷ 0x85 ∷ failing x) in
      let P = Q m in
      guarded_is P refl (λ (r : Result). r.status) (refused t) (λ n. refl) t _ _ refl (group_is P refl refl refl (two Q refl))
      (either (λ (r : Result). P r.status) (eqb (with_entries (retain_outside (group_keys key.fabric key.endpoint key.group)) t).state.entries t.state.entries) refl refl)

  pub membership-numbers : (buffer : List ℕ) → Among (0 ∷ 1 ∷ 6 ∷ 8 ∷ 0x85 ∷ failing m) (get_scene_membership key m buffer t).read.status
  unfolding get_scene_membership
  membership-numbers buffer =
      let Q : Membership → ℕ → Type 0 = λ x. Among (0 ∷ 1 ∷ 6 ∷ 8 ∷ 0x85 ∷ failing x) in
      let P = Q m in
      guarded_is P refl (λ (l : Listed). l.read.status) _ (λ n. refl) t _ _ refl (group_is P refl refl refl (two Q refl))
      (list_is P refl refl (scene_ids key t) _ buffer t)

pub copy-numbers : (c : CopyRequest) (m n : Membership) (t : Table) → Among (0 ∷ 1 ∷ 6 ∷ 0x85 ∷ 0x87 ∷ 0x89 ∷ 0x8B ∷ failing m ++ failing n) (copy_scene c m n t).status
unfolding copy_scene
copy-numbers c m n t =
    let Q : Membership → Membership → ℕ → Type 0 = λ x y. Among (0 ∷ 1 ∷ 6 ∷ 0x85 ∷ 0x87 ∷ 0x89 ∷ 0x8B ∷ failing x ++ failing y) in
    let P = Q m n in
    let target : (x : Membership) → Q x Failed membership_failed = λ x. elim x as (λ x. Q x Failed membership_failed) [ Yes ↦ refl | No ↦ refl | Failed ↦ refl ] in
    guarded_is P refl (λ (r : Result). r.status) (refused t) (λ k. refl) t _ _ refl
    (copy_gate_is P refl refl refl refl m (two (λ x. Q x n) refl) c n (two (Q m) (target m)))
    (inner_is P refl refl refl c t)

pub info-numbers : (fabric endpoint : ℕ) (single : Bool) (t : Table) → Among (0 ∷ 1 ∷ 5 ∷ 6 ∷ []) (read_fabric_scene_info fabric endpoint single t).status
unfolding read_fabric_scene_info info_gate
info-numbers fabric endpoint single t =
    let P : ℕ → Type 0 = Among (0 ∷ 1 ∷ 5 ∷ 6 ∷ []) in
    guarded_is P refl (λ (r : InfoRead). r.status) _ (λ n. refl) t _ _ refl
    (first_each P refl _ (fabric_is P refl refl fabric, (refuse_if_lem P refl single single_element refl, tt)))
    (row_is P refl (first_owned t.records t.state.recorded fabric endpoint) fabric (count_keys t.slots.keys t.state.entries (endpoint_keys fabric endpoint)) t)

-- what an image is answered
verdict_is : (P : ℕ → Type 0) → P success → P bad_image → P clashing_image → (i : Option Image) → P (verdict i)
unfolding verdict
verdict_is P done nine ten None = nine
verdict_is P done nine ten (Some i) = either P (clashes i) ten done

module _ (t : Table) where
  -- a call without a request of its own answers 0 or 6
  event_is : (o : Result) → o.status ≡ success → Among (0 ∷ 6 ∷ []) (guarded (refused t) (refusal_of t success) o).status
  event_is o e = guarded_is (Among (0 ∷ 6 ∷ [])) refl (λ (r : Result). r.status) (refused t) (λ n. refl) t success o refl refl (rw e refl)

  pub notice-numbers : (endpoint : ℕ) → Among (0 ∷ 6 ∷ []) (scenable_attribute_changed endpoint t).status
  unfolding scenable_attribute_changed
  notice-numbers endpoint = event_is _ refl

  pub removal-numbers : (fabric : ℕ) → Among (0 ∷ 1 ∷ 6 ∷ []) (remove_for_fabric fabric t).status
  unfolding remove_for_fabric removed_fabric
  removal-numbers fabric =
      let P : ℕ → Type 0 = Among (0 ∷ 1 ∷ 6 ∷ []) in
      guarded_is P refl (λ (r : Result). r.status) (refused t) (λ n. refl) t _ _ refl (fabric_is P refl refl fabric) refl

  pub reset-numbers : Among (0 ∷ 6 ∷ []) (factory_reset t).status
  unfolding factory_reset
  reset-numbers = event_is _ refl

  pub startup-numbers : Among (0 ∷ 6 ∷ []) (startup t).status
  unfolding startup
  startup-numbers = event_is _ refl

  pub save-numbers : (buffer : List ℕ) → Among (0 ∷ 6 ∷ 8 ∷ []) (save_image buffer t).answer.status
  unfolding save_image
  save-numbers buffer =
      let P : ℕ → Type 0 = Among (0 ∷ 6 ∷ 8 ∷ []) in
      guarded_is P refl (λ (s : Saved). s.answer.status) (unsaved buffer t) (λ n. refl) t _ _ refl
      (either P (leb (length (image_of t)) (length buffer)) refl refl) refl

  pub load-numbers : (image : List ℕ) → Among (0 ∷ 6 ∷ 9 ∷ 10 ∷ []) (load_image image t).status
  unfolding startup load_tlv load_image
  load-numbers [] =
      guarded_is (Among (0 ∷ 6 ∷ 9 ∷ 10 ∷ [])) refl (λ (r : Result). r.status) (refused t) (λ n. refl) t success _ refl refl refl
  load-numbers (b ∷ bs) =
      let P : ℕ → Type 0 = Among (0 ∷ 6 ∷ 9 ∷ 10 ∷ []) in
      guarded_is P refl (λ (r : Result). r.status) (refused t) (λ n. refl) t _ _ refl (verdict_is P refl refl refl (image_in t.state.size (b ∷ bs))) refl

  pub fail_safe-numbers : Among (0 ∷ 6 ∷ []) (fail_safe t).status
  unfolding fail_safe
  fail_safe-numbers = event_is _ refl
