-- Every refusal is its number and nothing else, what a whole-group copy that ran out midway leaves, and that 11 is decided by the inputs
-- alone. Assumes nothing.
use Prim.Native.Nat.{ℕ, zero, suc}
use mathlib.Core.Path.{◌≡◌, refl, sym, ap, ◌∙◌}
use mathlib.Core.Bool.{Bool, true, false, ◌&&◌}
use mathlib.Core.List.{List, [], ◌∷◌}
use native.Mathlib.Omega.{arith}
use lib.Dec.{eqb, ltb}
use lib.ListN.{length, get_or}
use borrow.Author.Tests.{lt-ltb, ne_eqb, eqb-true, eqb-false}
use Rattle.words.specs.Constants.{success, not_found, insufficient_space, bad_field_sets, max_fields}
use Rattle.words.specs.Words.{word_of, group_keys}
use Rattle.std.specs.Prelude.{Option, Some, None}
use Rattle.words.specs.declared.SceneKey.{SceneKey}
use Rattle.words.specs.declared.GroupKey.{GroupKey}
use Rattle.words.proofs.Tests.{and_intro}
use Rattle.slots.specs.Slots.{first_key}
use Rattle.records.specs.Records.{first_owned}
use Rattle.requests.specs.declared.Membership.{Membership}
use Rattle.requests.specs.declared.CopyRequest.{CopyRequest}
use Rattle.requests.specs.Requests.{whole_group, lookup_gate, copy_gate}
use Rattle.state.specs.declared.ScenesState.{ScenesState}
use Rattle.commands.specs.declared.Applied.{Applied}
use Rattle.commands.specs.declared.Applied.TheVariants as applied
use Rattle.reads.specs.Reads.{Transition}
use Rattle.reads.specs.declared.SceneRead.{SceneRead}
use Rattle.reads.specs.declared.InfoRead.{InfoRead}
use Rattle.state.specs.Table.{Table, Entries, with_entries}
use Rattle.state.specs.Sound.{sound}
use Rattle.state.specs.Capacity.{may_append, room_for, remaining}
use Rattle.state.specs.Change.{saved, find_scene, Upserted, upsert_at, upsert, retain_outside}
use Rattle.state.specs.Answer.{Result, result_of, refused, refusal_of, guarded}
use Rattle.state.proofs.Capacity.{by_cap}
use Rattle.commands.specs.Commands.{add_scene, stored, store_captured, store_scene, remove_found, remove_scene, removed_all, remove_all_scenes, recall_found, recall_scene}
use Rattle.copies.specs.Copy.{Copied, copied_of, copy_to, copy_entry, copy_found, copy_single, is_source, key_in, copy_walk, source_group, target_group, source_key, target_key, copy_sources, copied, copy_scenes_inner, copy_scene}
use Rattle.reads.specs.Reads.{unread, read_at, recall_lookup, view_scene, Listed, unlisted, scene_ids, list_ids, get_scene_membership, no_row, info_row, read_fabric_scene_info}
use Rattle.lifecycle.specs.Lifecycle.{scenable_attribute_changed, removed_fabric, remove_for_fabric, factory_reset, startup, fail_safe}
use Rattle.image_save.specs.Saving.{Saved, unsaved, save_image}
use Rattle.image_load.specs.Loading.{load_tlv, load_image}
use Rattle.add_read.specs.Adding.{add_read_gate, add_scene_read}
use Rattle.observation.specs.Refusals.{Outward, add, add_read, store, remove, remove_all, recall, lookup, view, copy, membership, info, notice, removal, reset, start, failSafeEvent, save, load, Answered, result, scene, list, row, image, status, answer, only, EveryRefusal, ElevenByInputs, outward, RefusedRun}
use Rattle.observation.specs.Calls as calls
use Rattle.observation.proofs.Choices.{cond_elim, and_other}
use Rattle.observation.proofs.Numbers.{either, upsert_is}

-- ---- an answer that is a success, or its number alone

module _ {A : Type 0} (number : A → ℕ) (refuse : ℕ → A) where
  abbrev Bare : A → Type 0
  Bare a = (number a ≡ success → ⊥) → a ≡ refuse (number a)

  guarded-bare : ((n : ℕ) → number (refuse n) ≡ n) → (n : ℕ) (o : A) → Bare o → Bare (guarded refuse n o)
  unfolding guarded
  guarded-bare same n o b = either Bare (eqb n success) b (λ _. ap refuse (sym (same n)))

abbrev Refuses : Table → Result → Type 0
Refuses t r = Bare (λ (r : Result). r.status) (refused t) r

abbrev Unread : Table → SceneRead → Type 0
Unread t r = Bare (λ (r : SceneRead). r.status) (unread t) r

module _ (t : Table) where
  result-bare : (n : ℕ) (o : Result) → Refuses t o → Refuses t (guarded (refused t) n o)
  result-bare n o b = guarded-bare (λ (r : Result). r.status) (refused t) (λ _. refl) n o b

  read-bare : (n : ℕ) (o : SceneRead) → Unread t o → Unread t (guarded (unread t) n o)
  read-bare n o b = guarded-bare (λ (r : SceneRead). r.status) (unread t) (λ _. refl) n o b

  -- what succeeds is no refusal
  succeeded : (r : Result) → r.status ≡ success → Refuses t r
  succeeded r e h = absurd (h e)

  -- ---- what the table decides

  -- an upsert that does not succeed leaves the table
  upsert-bare : (key : SceneKey) (time : ℕ) (ext : List ℕ) → ((upsert key time ext t).status ≡ success → ⊥) → (upsert key time ext t).table ≡ t
  unfolding upsert upsert_at
  upsert-bare key time ext = go (find_scene key t)
    where
      go : (f : Option ℕ) → ((upsert_at f key time ext t).status ≡ success → ⊥) → (upsert_at f key time ext t).table ≡ t
      go (Some p) = λ h. absurd (h refl)
      go None =
          either (λ (u : Upserted). (u.status ≡ success → ⊥) → u.table ≡ t) (may_append t.state t.slots.keys key.fabric)
          (λ h. absurd (h refl)) (λ _. refl)

  saved-bare : (u : Upserted) → ((u.status ≡ success → ⊥) → u.table ≡ t) → Refuses t (saved u)
  saved-bare u same h = λ i. record { status = u.status; save = ne_eqb u.status success h i; table = same h i }

  stored-bare : (key : SceneKey) (u : Upserted) → ((u.status ≡ success → ⊥) → u.table ≡ t) → Refuses t (stored key u)
  unfolding stored
  stored-bare key u same =
      either (Refuses t) (eqb u.status success) (λ h. absurd (h refl)) (λ h i. record { status = u.status; save = false; table = same h i })

  removed-bare : (f : Option ℕ) (key : SceneKey) → Refuses t (remove_found f key t)
  unfolding remove_found
  removed-bare (Some p) key = λ h. absurd (h refl)
  removed-bare None key = λ _. refl

  recalled-bare : (f : Option ℕ) (key : SceneKey) (a : Applied) → Refuses t (recall_found f key a t)
  unfolding recall_found
  recalled-bare None key a = λ _. refl
  recalled-bare (Some p) key applied.Failed = λ _. refl
  recalled-bare (Some p) key applied.Yes = λ h. absurd (h refl)

  found-bare : (f : Option ℕ) (o : Transition) → Unread t (read_at f o t)
  unfolding read_at
  found-bare (Some p) o = λ h. absurd (h refl)
  found-bare None o = λ _. refl

  module _ (buffer : List ℕ) where
    abbrev Unlisted : Listed → Type 0
    Unlisted l = Bare (λ (l : Listed). l.read.status) (unlisted buffer t) l

    ids-bare : (l : List ℕ) (left : ℕ) → Unlisted (list_ids l left buffer t)
    unfolding list_ids
    ids-bare l left = either Unlisted (ltb (length buffer) (length l)) (λ _. refl) (λ h. absurd (h refl))

  abbrev NoRow : InfoRead → Type 0
  NoRow r = Bare (λ (r : InfoRead). r.status) (no_row t) r

  row-bare : (f : Option ℕ) (fabric n : ℕ) → NoRow (info_row f fabric n t)
  unfolding info_row
  row-bare (Some p) fabric n = λ h. absurd (h refl)
  row-bare None fabric n = either NoRow (eqb n 0) (λ h. absurd (h refl)) (λ h. absurd (h refl))

-- ---- copies

-- an entry that is not copied found no room, and the entries are as they were
entry_full : (i : ℕ) (key : SceneKey) (e : Entries) → ((copy_entry i key e).status ≡ success → ⊥)
    → copy_entry i key e ≡ copied_of insufficient_space e
unfolding copy_entry copy_to
entry_full i key e = go (first_key e.slots.keys e.state.entries (word_of key))
  where
    go : (f : Option ℕ) → ((copy_to f i key e).status ≡ success → ⊥) → copy_to f i key e ≡ copied_of insufficient_space e
    go (Some p) = λ h. absurd (h refl)
    go None =
        either (λ (o : Copied). (o.status ≡ success → ⊥) → o ≡ copied_of insufficient_space e)
        (eqb (room_for e.state e.slots.keys key.fabric) 0) (λ _. refl) (λ h. absurd (h refl))

single_bare : (from to : SceneKey) (e : Entries) → ((copy_single from to e).status ≡ success → ⊥) → (copy_single from to e).entries ≡ e
unfolding copy_single copy_found
single_bare from to e = go (first_key e.slots.keys e.state.entries (word_of from))
  where
    go : (f : Option ℕ) → ((copy_found f to e).status ≡ success → ⊥) → (copy_found f to e).entries ≡ e
    go (Some i) = λ h. ap (λ (o : Copied). o.entries) (entry_full i to e h)
    go None = λ _. refl

-- a walk that ends otherwise than by 0 and by 0x89 met no source; s is not 0 before one is met, and then the entries are still those of u
walk_bare : (from to : GroupKey) (u : Entries) (k i s : ℕ) (e : Entries) → ((s ≡ success → ⊥) → e ≡ u)
    → ((copy_walk from to k i s e).status ≡ success → ⊥) → ((copy_walk from to k i s e).status ≡ insufficient_space → ⊥)
    → (copy_walk from to k i s e).entries ≡ u
unfolding copy_walk
walk_bare from to u zero i s e same = λ h _. same h
walk_bare from to u (suc k) i s e same =
    let word = get_or e.slots.keys i 0 in
    let o = copy_entry i (key_in to word) e in
    let Left : Copied → Type 0 = λ c. (c.status ≡ success → ⊥) → (c.status ≡ insufficient_space → ⊥) → c.entries ≡ u in
    either Left (is_source from word)
    (either Left (eqb o.status success) (walk_bare from to u k (suc i) success o.entries (λ h. absurd (h refl)))
    (λ h n. absurd (n (ap (λ (c : Copied). c.status) (entry_full i (key_in to word) e h)))))
    (walk_bare from to u k (suc i) s e same)

module _ (c : CopyRequest) (t : Table) where
  abbrev held : Entries
  held = record { state = t.state; slots = t.slots }

  copied-bare : (o : Copied) → ((o.status ≡ success → ⊥) → o.entries ≡ held) → Refuses t (copied c t o)
  unfolding copied
  copied-bare o same =
      either (Refuses t) (eqb o.status success) (λ h. absurd (h refl))
      (λ h. ap (λ (e : Entries). result_of o.status false (record { state = e.state; slots = e.slots; records = t.records })) (same h))

  -- what is looked at of a copy's status: whether it is 0x89 midway
  abbrev ran_out : ℕ → Bool
  ran_out n = whole_group c.mode && ltb 0 (remaining t.state t.slots.keys c.fabric) && eqb n insufficient_space

  has_remaining : (room_for t.state t.slots.keys c.fabric ≡ 0 → ⊥) → ltb 0 (remaining t.state t.slots.keys c.fabric) ≡ true
  has_remaining h =
      let left = remaining t.state t.slots.keys c.fabric in
      let some : left ≡ 0 → ⊥ = λ z. h ((by_cap.none_left t.state t.slots.keys c.fabric).0 z) in
      lt-ltb 0 left (omega arith)

  copied-status : (o : Copied) → (copied c t o).status ≡ o.status
  unfolding copied
  copied-status o =
      cond_elim (λ (r : Result). r.status ≡ o.status) (eqb o.status success) (λ e. sym (eqb-true o.status success e)) (λ _. refl)

  sources_bare : (room_for t.state t.slots.keys c.fabric ≡ 0 → ⊥) → ran_out (copy_sources c held).status ≡ false
      → ((copy_sources c held).status ≡ success → ⊥) → (copy_sources c held).entries ≡ held
  unfolding copy_sources
  sources_bare room =
      cond_elim (λ (o : Copied). ran_out o.status ≡ false → (o.status ≡ success → ⊥) → o.entries ≡ held) (whole_group c.mode)
      (λ whole q h.
      walk_bare (source_group c) (target_group c) held t.state.entries 0 not_found held (λ _. refl) h
      (eqb-false _ insufficient_space (and_other _ _ q (and_intro (whole_group c.mode) _ whole (has_remaining room)))))
      (λ _ _ h. single_bare (source_key c) (target_key c) held h)

  inner_bare : ran_out (copy_scenes_inner c t).status ≡ false → Refuses t (copy_scenes_inner c t)
  unfolding copy_scenes_inner
  inner_bare =
      let room = room_for t.state t.slots.keys c.fabric in
      let o : Copied = copy_sources c held in
      cond_elim (λ (r : Result). ran_out r.status ≡ false → Refuses t r) (eqb room 0) (λ _ _ _. refl)
      (λ z q. copied-bare o (sources_bare (eqb-false room 0 z) (sym (ap ran_out (copied-status o)) ∙ q)))

  copy-bare : (m n : Membership) → ran_out (copy_scene c m n t).status ≡ false → Refuses t (copy_scene c m n t)
  unfolding copy_scene guarded
  copy-bare m n =
      either (λ (r : Result). ran_out r.status ≡ false → Refuses t r) (eqb (refusal_of t (copy_gate c m n)) success) inner_bare (λ _ _. refl)

-- ---- the sentence

pub every_refusal : EveryRefusal
unfolding add_scene add_scene_read store_scene store_captured remove_scene remove_all_scenes removed_all recall_scene recall_lookup view_scene
    get_scene_membership read_fabric_scene_info scenable_attribute_changed remove_for_fabric removed_fabric factory_reset startup fail_safe
    save_image load_tlv load_image
every_refusal (add key time m pairs ext) t h x = ap result (result-bare t _ _ (saved-bare t _ (upsert-bare t key time ext)) h)
every_refusal (add_read key time m pairs ext) t h x = ap result (result-bare t _ _ (saved-bare t _ (upsert-bare t key time ext)) h)
every_refusal (store key m captured) t h x = ap result (result-bare t _ _ (stored-bare t key _ (upsert-bare t key _ _)) h)
every_refusal (remove key m) t h x = ap result (result-bare t _ _ (removed-bare t (find_scene key t) key) h)
every_refusal (remove_all key m) t h x =
    let u : Table = with_entries (retain_outside (group_keys key.fabric key.endpoint key.group)) t in
    ap result (result-bare t _ _ (either (Refuses t) (eqb u.state.entries t.state.entries) (succeeded t _ refl) (succeeded t _ refl)) h)
every_refusal (recall key m a) t h x = ap result (result-bare t _ _ (recalled-bare t (find_scene key t) key a) h)
every_refusal (lookup key m o) t h x = ap scene (read-bare t _ _ (found-bare t (find_scene key t) o) h)
every_refusal (view key m) t h x = ap scene (read-bare t _ _ (found-bare t (find_scene key t) _) h)
every_refusal (copy c m n) t h x = ap result (copy-bare c t m n x h)
every_refusal (membership key m buffer) t h x =
    ap list (guarded-bare (λ (l : Listed). l.read.status) (unlisted buffer t) (λ _. refl) _ _ (ids-bare t buffer (scene_ids key t) _) h)
every_refusal (info f e single) t h x =
    let found : Option ℕ = first_owned t.records t.state.recorded f e in
    ap row (guarded-bare (λ (r : InfoRead). r.status) (no_row t) (λ _. refl) _ _ (row-bare t found f _) h)
every_refusal (notice e) t h x = ap result (result-bare t _ _ (succeeded t _ refl) h)
every_refusal (removal f) t h x = ap result (result-bare t _ _ (succeeded t _ refl) h)
every_refusal reset t h x = ap result (result-bare t _ _ (succeeded t _ refl) h)
every_refusal start t h x = ap result (result-bare t _ _ (succeeded t _ refl) h)
every_refusal failSafeEvent t h x = ap result (result-bare t _ _ (succeeded t _ refl) h)
every_refusal (save buffer) t h x =
    ap image (guarded-bare (λ (s : Saved). s.answer.status) (unsaved buffer t) (λ _. refl) _ _ (λ z. absurd (z refl)) h)
every_refusal (load []) t h x = ap result (result-bare t _ _ (succeeded t _ refl) h)
every_refusal (load (b ∷ bs)) t h x = ap result (result-bare t _ _ (succeeded t _ refl) h)

-- ---- by the inputs alone

-- behind the gate, which is of the inputs, an add is answered 0 or 0x89
eleven_gate : (key : SceneKey) (time : ℕ) (m : Membership) (pairs ext : List ℕ) (t : Table) → sound t ≡ true
    → eqb (add_scene_read key time m pairs ext t).status bad_field_sets ≡ eqb (add_read_gate key time m pairs max_fields ext) bad_field_sets
unfolding add_scene_read refusal_of guarded
eleven_gate key time m pairs ext t sd =
    let gate : ℕ = add_read_gate key time m pairs max_fields ext in
    let is : ℕ → Bool = λ n. eqb n bad_field_sets in
    rw sd
    (cond_elim (λ (r : Result). is r.status ≡ is gate) (eqb gate success)
    (λ q. upsert_is (λ n. is n ≡ false) refl refl key time ext t ∙ sym (ap is (eqb-true gate success q))) (λ _. refl))

pub eleven_by_inputs : ElevenByInputs
eleven_by_inputs key time m pairs ext s t ss st = eleven_gate key time m pairs ext s ss ∙ sym (eleven_gate key time m pairs ext t st)

-- ---- in the runs of demand 3

-- the table that an answer leaves
abbrev pub left : Table → Answered → Table
left t (result r) = r.table
left t (scene r) = calls.with_state r.state t
left t (list l) = calls.with_state l.read.state t
left t (row r) = calls.with_state r.state t
left t (image s) = calls.with_state s.answer.state t

-- recall's lookup hands the head back as it came, whatever it answers
pub lookup-state : (key : SceneKey) (m : Membership) (o : Transition) (t : Table) → (recall_lookup key m o t).state ≡ t.state
unfolding recall_lookup guarded read_at
lookup-state key m o t =
    either (λ (r : SceneRead). r.state ≡ t.state) (eqb (refusal_of t (lookup_gate key m)) success) (go (find_scene key t)) refl
  where
    go : (f : Option ℕ) → (read_at f o t).state ≡ t.state
    go (Some p) = refl
    go None = refl

-- what a call of a run answers and leaves is the outward call's
pub record Runs (t : Table) (c : calls.Call) : Type 0 where
  pub number : (calls.answer c t).status ≡ status (answer (outward c) t)
  pub table : calls.next c t ≡ left t (answer (outward c) t)

pub runs : (c : calls.Call) (t : Table) → Runs t c
unfolding calls.step calls.does
runs (calls.command f e (calls.add g s time m pairs ext)) t = record { number = refl; table = refl }
runs (calls.command f e (calls.add_read g s time m pairs ext)) t = record { number = refl; table = refl }
runs (calls.command f e (calls.view g s m)) t = record { number = refl; table = refl }
runs (calls.command f e (calls.remove g s m)) t = record { number = refl; table = refl }
runs (calls.command f e (calls.remove_all g m)) t = record { number = refl; table = refl }
runs (calls.command f e (calls.store g s m captured)) t = record { number = refl; table = refl }
runs (calls.command f e (calls.recall g s m o a)) t =
    let key : SceneKey = calls.scene_key f e g s in
    let r = ap (λ (x : ScenesState). recall_scene key m a (calls.with_state x t)) (lookup-state key m o t) in
    record { number = ap (λ (x : Result). x.status) r; table = ap (λ (x : Result). x.table) r }
runs (calls.command f e (calls.copy mode g s h r m n)) t = record { number = refl; table = refl }
runs (calls.command f e (calls.membership g m buffer)) t = record { number = refl; table = refl }
runs (calls.command f e (calls.info single)) t = record { number = refl; table = refl }
runs (calls.notice e) t = record { number = refl; table = refl }
runs (calls.removal f) t = record { number = refl; table = refl }
runs calls.reset t = record { number = refl; table = refl }
runs calls.start t = record { number = refl; table = refl }
runs calls.failSafeEvent t = record { number = refl; table = refl }
runs (calls.load bytes) t = record { number = refl; table = refl }

-- a number alone leaves the table
left-only : (c : Outward) (t : Table) (n : ℕ) → left t (only c t n) ≡ t
left-only (add key time m pairs ext) t n = refl
left-only (add_read key time m pairs ext) t n = refl
left-only (store key m captured) t n = refl
left-only (remove key m) t n = refl
left-only (remove_all key m) t n = refl
left-only (recall key m a) t n = refl
left-only (lookup key m o) t n = refl
left-only (view key m) t n = refl
left-only (copy c m k) t n = refl
left-only (membership key m buffer) t n = refl
left-only (info f e single) t n = refl
left-only (notice e) t n = refl
left-only (removal f) t n = refl
left-only reset t n = refl
left-only start t n = refl
left-only failSafeEvent t n = refl
left-only (save buffer) t n = refl
left-only (load bytes) t n = refl

pub refused_run : RefusedRun
refused_run c t h x =
    let r = runs c t in
    r.table ∙ ap (left t) (every_refusal (outward c) t (λ z. h (r.number ∙ z)) x) ∙ left-only (outward c) t _
