-- No call changes the modes: each hands back the head with the modes that it was given. Assumes nothing.
use Prim.Native.Nat.{ℕ, zero, suc}
use mathlib.Core.Path.{◌≡◌, refl, ap, ◌∙◌}
use mathlib.Core.List.{List, [], ◌∷◌}
use lib.Dec.{eqb, ltb}
use lib.ListN.{length, get_or}
use Rattle.std.proofs.Common.{Option, Some, None}
use Rattle.words.specs.Constants.{success}
use Rattle.words.specs.Words.{word_of, group_keys}
use Rattle.std.specs.Prelude.{Option as Maybe, Some, None}
use Rattle.words.specs.declared.SceneKey.{SceneKey}
use Rattle.words.specs.declared.GroupKey.{GroupKey}
use Rattle.slots.specs.Slots.{first_key}
use Rattle.records.specs.Records.{first_owned}
use Rattle.requests.specs.declared.CopyRequest.{CopyRequest}
use Rattle.requests.specs.Requests.{whole_group}
use Rattle.commands.specs.declared.Applied.{Applied}
use Rattle.commands.specs.declared.Applied.TheVariants as applied
use Rattle.reads.specs.Reads.{Transition}
use Rattle.reads.specs.declared.SceneRead.{SceneRead}
use Rattle.reads.specs.declared.InfoRead.{InfoRead}
use Rattle.state.specs.declared.ScenesState.{ScenesState}
use Rattle.state.specs.Table.{Table, Entries, with_entries}
use Rattle.state.specs.Capacity.{room_for}
use Rattle.state.specs.Current.{remember_current, invalidate_current}
use Rattle.state.specs.Change.{find_scene, append, put_at, Upserted, upsert, swap_remove, retain_outside}
use Rattle.state.specs.Answer.{Result, refused, guarded}
use Rattle.state.proofs.Laws.{upserted_head}
use Rattle.commands.specs.Commands.{add_scene, stored, store_captured, store_scene, remove_found, remove_scene, removed_all, remove_all_scenes, recall_found, recall_scene}
use Rattle.copies.specs.Copy.{Copied, copy_to, copy_entry, copy_found, copy_single, is_source, key_in, copy_walk, source_group, target_group, source_key, target_key, copy_sources, copied, copy_scenes_inner, copy_scene}
use Rattle.reads.specs.Reads.{read_at, recall_lookup, view_scene, Listed, scene_ids, list_ids, get_scene_membership, info_row, read_fabric_scene_info}
use Rattle.lifecycle.specs.Lifecycle.{scenable_attribute_changed, removed_fabric, remove_for_fabric, factory_reset, startup, fail_safe}
use Rattle.image_save.specs.Saving.{Saved, save_image}
use Rattle.image_reader.specs.Image.{Image, image_in}
use Rattle.image_load.specs.Loading.{restored, load_tlv, load_image}
use Rattle.add_read.specs.Adding.{add_scene_read}
use Rattle.observation.specs.Refusals.{add, add_read, store, remove, remove_all, recall, lookup, view, copy, membership, info, notice, removal, reset, start, failSafeEvent, save, load, Answered, result, scene, list, row, image, answer, outward}
use Rattle.observation.specs.Share.{head_of, ModesStay, ModesStayRun}
use Rattle.observation.proofs.Numbers.{either}
use Rattle.observation.proofs.Refusals.{left, runs}

-- the modes of a head are a table's
abbrev Of : Table → ScenesState → Type 0
Of t s = s.modes ≡ t.state.modes

module _ {A : Type 0} (head : A → ScenesState) where
  -- a refusal hands the head back
  guarded_modes : (t : Table) (refuse : ℕ → A) → ((n : ℕ) → Of t (head (refuse n))) → (n : ℕ) (o : A) → Of t (head o) → Of t (head (guarded refuse n o))
  unfolding guarded
  guarded_modes t refuse same n o e = either (λ (a : A). Of t (head a)) (eqb n success) e (same n)

abbrev after : Result → ScenesState
after r = r.table.state

module _ (t : Table) where
  result_modes : (n : ℕ) (o : Result) → Of t (after o) → Of t (after (guarded (refused t) n o))
  result_modes n o e = guarded_modes after t (refused t) (λ _. refl) n o e

  upsert_modes : (key : SceneKey) (time : ℕ) (ext : List ℕ) → Of t (upsert key time ext t).table.state
  upsert_modes key time ext = (upserted_head key time ext t _ refl).modes

  stored_modes : (key : SceneKey) (u : Upserted) → Of t u.table.state → Of t (after (stored key u))
  unfolding stored remember_current
  stored_modes key u e = either (λ (r : Result). Of t (after r)) (eqb u.status success) e e

  removed_modes : (f : Maybe ℕ) (key : SceneKey) → Of t (after (remove_found f key t))
  unfolding remove_found swap_remove invalidate_current
  removed_modes (Some p) key = refl
  removed_modes None key = refl

  recalled_modes : (f : Maybe ℕ) (key : SceneKey) (a : Applied) → Of t (after (recall_found f key a t))
  unfolding recall_found remember_current
  recalled_modes None key a = refl
  recalled_modes (Some p) key applied.Failed = refl
  recalled_modes (Some p) key applied.Yes = refl

  read_modes : (f : Maybe ℕ) (o : Transition) → Of t (read_at f o t).state
  unfolding read_at
  read_modes (Some p) o = refl
  read_modes None o = refl

  list_modes : (l : List ℕ) (left : ℕ) (buffer : List ℕ) → Of t (list_ids l left buffer t).read.state
  unfolding list_ids
  list_modes l left buffer = either (λ (x : Listed). Of t x.read.state) (ltb (length buffer) (length l)) refl refl

  row_modes : (f : Maybe ℕ) (fabric n : ℕ) → Of t (info_row f fabric n t).state
  unfolding info_row
  row_modes (Some p) fabric n = refl
  row_modes None fabric n = either (λ (r : InfoRead). Of t r.state) (eqb n 0) refl refl

  restored_modes : (o : Option Image) → Of t (restored o t).state
  unfolding restored
  restored_modes None = refl
  restored_modes (Some i) = refl

-- ---- copies

entry_modes : (i : ℕ) (key : SceneKey) (e : Entries) → (copy_entry i key e).entries.state.modes ≡ e.state.modes
unfolding copy_entry copy_to put_at append
entry_modes i key e = go (first_key e.slots.keys e.state.entries (word_of key))
  where
    go : (f : Maybe ℕ) → (copy_to f i key e).entries.state.modes ≡ e.state.modes
    go (Some p) = refl
    go None = either (λ (o : Copied). o.entries.state.modes ≡ e.state.modes) (eqb (room_for e.state e.slots.keys key.fabric) 0) refl refl

single_modes : (from to : SceneKey) (e : Entries) → (copy_single from to e).entries.state.modes ≡ e.state.modes
unfolding copy_single copy_found
single_modes from to e = go (first_key e.slots.keys e.state.entries (word_of from))
  where
    go : (f : Maybe ℕ) → (copy_found f to e).entries.state.modes ≡ e.state.modes
    go (Some i) = entry_modes i to e
    go None = refl

walk_modes : (from to : GroupKey) (k i s : ℕ) (e : Entries) → (copy_walk from to k i s e).entries.state.modes ≡ e.state.modes
unfolding copy_walk
walk_modes from to zero i s e = refl
walk_modes from to (suc k) i s e =
    let word = get_or e.slots.keys i 0 in
    let o = copy_entry i (key_in to word) e in
    let Same : Copied → Type 0 = λ c. c.entries.state.modes ≡ e.state.modes in
    either Same (is_source from word)
    (either Same (eqb o.status success) (walk_modes from to k (suc i) success o.entries ∙ entry_modes i (key_in to word) e) (entry_modes i (key_in to word) e))
    (walk_modes from to k (suc i) s e)

module _ (c : CopyRequest) (t : Table) where
  abbrev held : Entries
  held = record { state = t.state; slots = t.slots }

  sources_modes : Of t (copy_sources c held).entries.state
  unfolding copy_sources
  sources_modes =
      either (λ (o : Copied). Of t o.entries.state) (whole_group c.mode)
      (walk_modes (source_group c) (target_group c) t.state.entries 0 _ held) (single_modes (source_key c) (target_key c) held)

  inner_modes : Of t (after (copy_scenes_inner c t))
  unfolding copy_scenes_inner copied invalidate_current
  inner_modes =
      let o = copy_sources c held in
      either (λ (r : Result). Of t (after r)) (eqb (room_for t.state t.slots.keys c.fabric) 0) refl
      (either (λ (r : Result). Of t (after r)) (eqb o.status success) sources_modes sources_modes)

-- ---- all calls

pub modes_stay : ModesStay
unfolding add_scene add_scene_read store_scene store_captured remove_scene remove_all_scenes removed_all recall_scene recall_lookup view_scene copy_scene
    get_scene_membership read_fabric_scene_info scenable_attribute_changed remove_for_fabric removed_fabric factory_reset startup fail_safe
    save_image load_tlv load_image retain_outside invalidate_current
modes_stay (add key time m pairs ext) t = result_modes t _ _ (upsert_modes t key time ext)
modes_stay (add_read key time m pairs ext) t = result_modes t _ _ (upsert_modes t key time ext)
modes_stay (store key m captured) t = result_modes t _ _ (stored_modes t key _ (upsert_modes t key _ _))
modes_stay (remove key m) t = result_modes t _ _ (removed_modes t (find_scene key t) key)
modes_stay (remove_all key m) t =
    let u : Table = with_entries (retain_outside (group_keys key.fabric key.endpoint key.group)) t in
    result_modes t _ _ (either (λ (r : Result). Of t (after r)) (eqb u.state.entries t.state.entries) refl refl)
modes_stay (recall key m a) t = result_modes t _ _ (recalled_modes t (find_scene key t) key a)
modes_stay (lookup key m o) t = guarded_modes (λ (r : SceneRead). r.state) t _ (λ _. refl) _ _ (read_modes t (find_scene key t) o)
modes_stay (view key m) t = guarded_modes (λ (r : SceneRead). r.state) t _ (λ _. refl) _ _ (read_modes t (find_scene key t) _)
modes_stay (copy c m n) t = result_modes t _ _ (inner_modes c t)
modes_stay (membership key m buffer) t =
    guarded_modes (λ (l : Listed). l.read.state) t _ (λ _. refl) _ _ (list_modes t (scene_ids key t) _ buffer)
modes_stay (info f e single) t =
    guarded_modes (λ (r : InfoRead). r.state) t _ (λ _. refl) _ _ (row_modes t (first_owned t.records t.state.recorded f e) f _)
modes_stay (notice e) t = result_modes t _ _ refl
modes_stay (removal f) t = result_modes t _ _ refl
modes_stay reset t = result_modes t _ _ refl
modes_stay start t = result_modes t _ _ refl
modes_stay failSafeEvent t = result_modes t _ _ refl
modes_stay (save buffer) t = guarded_modes (λ (s : Saved). s.answer.state) t _ (λ _. refl) _ _ refl
modes_stay (load []) t = result_modes t _ _ refl
modes_stay (load (b ∷ bs)) t = result_modes t _ _ (restored_modes t (image_in t.state.size (b ∷ bs)))

-- ---- in the runs of demand 3

left-head : (t : Table) (a : Answered) → (left t a).state ≡ head_of a
left-head t (result r) = refl
left-head t (scene r) = refl
left-head t (list l) = refl
left-head t (row r) = refl
left-head t (image s) = refl

pub modes_stay_run : ModesStayRun
modes_stay_run c t =
    let a = answer (outward c) t in
    ap (λ (u : Table). u.state.modes) (runs c t).table ∙ ap (λ (s : ScenesState). s.modes) (left-head t a) ∙ modes_stay (outward c) t
