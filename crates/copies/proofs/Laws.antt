-- The laws of copies: what each case of the code leaves is the definition's, and the entries keep their room. Assumes nothing.
use Prim.Native.Nat.{ℕ, zero, suc, ◌+◌, ◌*◌, ◌-◌, ◌≤◌, ◌<◌}
use mathlib.Core.Path.{◌≡◌, refl, sym, ap, ◌∙◌}
use mathlib.Core.Bool.{true, false, cond}
use mathlib.Core.List.{List}
use native.Mathlib.Numerals.{add-one}
use native.Mathlib.Omega.{arith}
use lib.Dec.{eqb}
use lib.ListN.{length, get_or}
use borrow.Author.Tests.{eqb-true, eqb-false, eq-eqb, ne_eqb}
use Rattle.words.specs.Constants.{stride, max_fields, success, not_found, insufficient_space}
use Rattle.words.specs.Words.{word_of}
use Rattle.std.specs.Prelude.{Option, Some, None}
use Rattle.words.specs.declared.SceneKey.{SceneKey}
use Rattle.words.specs.declared.GroupKey.{GroupKey}
use Rattle.words.proofs.Tests.{all_head, all_tail}
use Rattle.slots.specs.Slots.{Slots, first_key, lengths_sound, length_at, fields_at, put_slot}
use Rattle.slots.proofs.Laws.{Bounds, length_part}
use Rattle.slots.proofs.View.{lengths_at, lengths_all, put-lengths, put-size, put_other}
use Rattle.requests.specs.declared.CopyRequest.{CopyRequest}
use Rattle.requests.specs.Requests.{whole_group}
use Rattle.state.specs.declared.ScenesState.{ScenesState}
use Rattle.state.specs.Table.{Table, Entries, EntryRoom, CopyRoom, current_of, with_entry_count}
use Rattle.state.specs.Sound.{sound}
use Rattle.state.specs.Capacity.{room_for}
use Rattle.state.specs.Current.{invalidate_current}
use Rattle.state.specs.Change.{put_at, append}
use Rattle.state.specs.Answer.{result_of, refused}
use Rattle.copies.specs.Copy.{Copied, copied_of, copy_to, copy_entry, source_key, target_key, copy_found, copy_single, source_group, target_group, key_in, is_source, copy_walk, copy_sources, target_scope, copied, copy_scenes_inner}
use Rattle.state.proofs.Laws.{sound_bounds, found_under}

-- ---- room

pub sound-copy-room : (t : Table) → sound t ≡ true → CopyRoom t
unfolding sound
sound-copy-room t e =
    let f = sound_bounds t e in
    record {
      entries = record { entries = f.entries; keys = f.keys; times = f.times; fields = f.fields; lengths = all_head _ _ (all_tail _ _ (all_tail _ _ e)) };
      recorded = omega arith;
    }

pub room_bounds : {e : Entries} → EntryRoom e → Bounds e.slots e.state.size
room_bounds r = record { keys = r.keys; times = r.times; fields = r.fields }

-- the length byte and the field bytes of an entry
pub entry_length_lem : {e : Entries} → EntryRoom e → (i : ℕ) → i < e.state.entries → length_at e.slots.fields i ≤ max_fields
entry_length_lem {e} r i h = lengths_at e.slots.fields e.state.entries i r.lengths h

entry-fits : {e : Entries} → EntryRoom e → (i : ℕ) → i < e.state.entries → length (fields_at e.slots.fields i) ≤ max_fields
entry-fits {e} r i h =
    let l = entry_length_lem r i h in
    omega (arith, length_part e.slots.fields (i * stride + 1) (length_at e.slots.fields i) (omega arith))

-- a fabric that has something remaining finds a place
pub room-free : (s : ScenesState) (keys : List ℕ) (fabric : ℕ) → (room_for s keys fabric ≡ 0 → ⊥) → s.entries < s.size
unfolding room_for
room-free s keys fabric h = omega arith

-- a write at p leaves room for n entries, if each of them but that at p was there
module _ {e : Entries} (r : EntryRoom e) (p key time : ℕ) (ext : List ℕ) (h : p < e.state.size) (l : length ext ≤ max_fields) where
  put-lengths-sound : (n : ℕ) → ((i : ℕ) → i < n → (i ≡ p → ⊥) → i < e.state.entries) → lengths_sound (put_slot p key time ext e.slots).fields n ≡ true
  put-lengths-sound n there =
      lengths_all (put_slot p key time ext e.slots).fields n
      (λ i m. (elim (eqb i p) as (λ b. eqb i p ≡ b → length_at (put_slot p key time ext e.slots).fields i ≤ max_fields) [
        | true ↦ λ q. let s : i ≡ p = eqb-true i p q in rw s (omega (arith, put-size (room_bounds r) p key time ext h))
        | false ↦ λ q.
            let k = entry_length_lem r i (there i m (eqb-false i p q)) in
            omega (arith, (put_other (room_bounds r) p key time ext h l i (eqb-false i p q) k).size)
      ]) refl)

  put-room : (n : ℕ) → n ≤ e.state.size → ((i : ℕ) → i < n → (i ≡ p → ⊥) → i < e.state.entries)
      → EntryRoom (record { state = with_entry_count n e.state; slots = put_slot p key time ext e.slots })
  put-room n k there =
      let s = put-lengths (room_bounds r) p key time ext h l in
      record { entries = k; keys = omega arith; times = omega arith; fields = omega arith; lengths = put-lengths-sound n there }

-- ---- the copy of an entry

-- f is what a search for the key's word w found
sought : (e : Entries) (key : SceneKey) {w : ℕ} {f g : Option ℕ} → w ≡ word_of key → f ≡ first_key e.slots.keys e.state.entries w → f ≡ g → first_key e.slots.keys e.state.entries (word_of key) ≡ g
sought e key x y z = ap (first_key e.slots.keys e.state.entries) (sym x) ∙ sym y ∙ z

module _ (i : ℕ) (key : SceneKey) (e : Entries) {w : ℕ} (x : w ≡ word_of key) {f : Option ℕ} (y : f ≡ first_key e.slots.keys e.state.entries w) where
  -- over the entry that has the key
  pub copy-known : {p : ℕ} {s : Slots} → f ≡ Some p → s ≡ put_slot p w (get_or e.slots.times i 0) (fields_at e.slots.fields i) e.slots
      → copied_of success (record { state = e.state; slots = s }) ≡ copy_entry i key e
  unfolding copy_entry copy_to put_at
  copy-known {p} {s} z q =
      let r : s ≡ put_slot p (word_of key) (get_or e.slots.times i 0) (fields_at e.slots.fields i) e.slots = rw (← x) q in
      rw (sought e key x y z) (λ d. copied_of success (record { state = e.state; slots = r d }))

  -- behind the last one
  pub copy-new : {s : Slots} → f ≡ None → (room_for e.state e.slots.keys key.fabric ≡ 0 → ⊥)
      → s ≡ put_slot e.state.entries w (get_or e.slots.times i 0) (fields_at e.slots.fields i) e.slots
      → copied_of success (record { state = with_entry_count (e.state.entries + 1) e.state; slots = s }) ≡ copy_entry i key e
  unfolding copy_entry copy_to append
  copy-new {s} z h q =
      let r : s ≡ put_slot e.state.entries (word_of key) (get_or e.slots.times i 0) (fields_at e.slots.fields i) e.slots = rw (← x) q in
      rw (sought e key x y z, ne_eqb _ _ h) (λ d. copied_of success (record { state = with_entry_count (e.state.entries + 1) e.state; slots = r d }))

  pub copy_full : f ≡ None → room_for e.state e.slots.keys key.fabric ≡ 0 → copied_of insufficient_space e ≡ copy_entry i key e
  unfolding copy_entry copy_to
  copy_full z h = rw (sought e key x y z, eq-eqb _ _ h)

-- ---- what a copy keeps

-- there is room for the next copy, there are no fewer entries, and the rest of the head stays
pub record Kept (e u : Entries) : Type 0 where
  pub room : EntryRoom u
  pub entries : e.state.entries ≤ u.state.entries
  pub head : u.state ≡ with_entry_count u.state.entries e.state

kept_none : {e : Entries} → EntryRoom e → Kept e e
kept_none r = record { room = r; entries = omega arith; head = refl }

kept_then : {e u v : Entries} → Kept e u → Kept u v → Kept e v
kept_then {v = v} k m = record {
  room = m.room;
  entries = omega arith;
  head = m.head ∙ ap (with_entry_count v.state.entries) k.head;
}

module _ (i : ℕ) (key : SceneKey) (e : Entries) (r : EntryRoom e) (h : i < e.state.entries) where
  put-kept : (p : ℕ) → p < e.state.entries → Kept e (put_at p key (get_or e.slots.times i 0) (fields_at e.slots.fields i) e)
  unfolding put_at
  put-kept p m = record {
    room = put-room r p (word_of key) (get_or e.slots.times i 0) (fields_at e.slots.fields i) (omega arith) (entry-fits r i h) e.state.entries r.entries (λ j k _. k);
    entries = omega arith;
    head = refl;
  }

  append-kept : e.state.entries < e.state.size → Kept e (append key (get_or e.slots.times i 0) (fields_at e.slots.fields i) e)
  unfolding append
  append-kept m = record {
    room = put-room r e.state.entries (word_of key) (get_or e.slots.times i 0) (fields_at e.slots.fields i) m (entry-fits r i h) (e.state.entries + 1) (omega arith) (λ j k n. omega arith);
    entries = omega arith;
    head = refl;
  }

  to_kept : (f : Option ℕ) → first_key e.slots.keys e.state.entries (word_of key) ≡ f → Kept e (copy_to f i key e).entries
  unfolding copy_to
  to_kept (Some p) q = put-kept p (found_under e.slots.keys e.state.entries (word_of key) p q)
  to_kept None q =
      let room = room_for e.state e.slots.keys key.fabric in
      (elim (eqb room 0) as (λ b. eqb room 0 ≡ b
      → Kept e (cond b (copied_of insufficient_space e) (copied_of success (append key (get_or e.slots.times i 0) (fields_at e.slots.fields i) e))).entries) [
        | true ↦ λ _. kept_none r
        | false ↦ λ z. append-kept (room-free e.state e.slots.keys key.fabric (eqb-false room 0 z))
      ]) refl

  pub copy-kept : Kept e (copy_entry i key e).entries
  unfolding copy_entry
  copy-kept = to_kept (first_key e.slots.keys e.state.entries (word_of key)) refl

found-kept : (from to : SceneKey) (e : Entries) → EntryRoom e → (f : Option ℕ) → first_key e.slots.keys e.state.entries (word_of from) ≡ f → Kept e (copy_found f to e).entries
unfolding copy_found
found-kept from to e r (Some i) q = copy-kept i to e r (found_under e.slots.keys e.state.entries (word_of from) i q)
found-kept from to e r None q = kept_none r

pub single_kept : (from to : SceneKey) (e : Entries) → EntryRoom e → Kept e (copy_single from to e).entries
unfolding copy_single
single_kept from to e r = found-kept from to e r (first_key e.slots.keys e.state.entries (word_of from)) refl

pub walk_kept : (from to : GroupKey) (k i s : ℕ) (e : Entries) → EntryRoom e → i + k ≤ e.state.entries → Kept e (copy_walk from to k i s e).entries
unfolding copy_walk
walk_kept from to zero i s e r h = kept_none r
walk_kept from to (suc k) i s e r h =
    let word = get_or e.slots.keys i 0 in
    let o = copy_entry i (key_in to word) e in
    let c = copy-kept i (key_in to word) e r (omega arith) in
    elim (is_source from word) as (λ b. Kept e (cond b (cond (eqb o.status success) (copy_walk from to k (suc i) success o.entries) o) (copy_walk from to k (suc i) s e)).entries) [
      | true ↦ elim (eqb o.status success) as (λ b. Kept e (cond b (copy_walk from to k (suc i) success o.entries) o).entries) [
        | true ↦ kept_then c (walk_kept from to k (suc i) success o.entries c.room (omega (arith, c.entries)))
        | false ↦ c
      ]
      | false ↦ walk_kept from to k (suc i) s e r (omega arith)
    ]

pub sources_kept : (c : CopyRequest) (e : Entries) → EntryRoom e → Kept e (copy_sources c e).entries
unfolding copy_sources
sources_kept c e r =
    elim (whole_group c.mode) as (λ b. Kept e (cond b (copy_walk (source_group c) (target_group c) e.state.entries 0 not_found e) (copy_single (source_key c) (target_key c) e)).entries) [
      | true ↦ walk_kept (source_group c) (target_group c) e.state.entries 0 not_found e r (omega arith)
      | false ↦ single_kept (source_key c) (target_key c) e r
    ]

-- ---- one scene

module _ (from to : SceneKey) (e : Entries) {w : ℕ} (x : w ≡ word_of from) {f : Option ℕ} (y : f ≡ first_key e.slots.keys e.state.entries w) where
  pub single_found : {i : ℕ} {o : Copied} → f ≡ Some i → o ≡ copy_entry i to e → o ≡ copy_single from to e
  unfolding copy_single copy_found
  single_found z q = rw (sought e from x y z) q

  pub single_missing : f ≡ None → copied_of not_found e ≡ copy_single from to e
  unfolding copy_single copy_found
  single_missing z = rw (sought e from x y z)

-- ---- the walk over n positions, at its turn i

pub walk_start : (from to : GroupKey) (n status : ℕ) (e : Entries) → copy_walk from to (n - 0) 0 status e ≡ copy_walk from to n 0 status e
walk_start from to n status e = let z : n - 0 ≡ n = omega arith in rw z

module _ (from to : GroupKey) (n i status : ℕ) (e : Entries) where
  pub walk_end : n ≤ i → copy_walk from to (n - i) i status e ≡ copied_of status e
  unfolding copy_walk
  walk_end h = let z : n - i ≡ 0 = omega arith in rw z

  -- no source
  pub walk_skip : i < n → is_source from (get_or e.slots.keys i 0) ≡ false → copy_walk from to (n - i) i status e ≡ copy_walk from to (n - (i + 1)) (i + 1) status e
  unfolding copy_walk
  walk_skip h q = let z : n - i ≡ suc (n - (i + 1)) = omega arith in rw (z, q, add-one i)

  -- a source without room
  pub walk_stop : (o : Copied) → i < n → is_source from (get_or e.slots.keys i 0) ≡ true → o ≡ copy_entry i (key_in to (get_or e.slots.keys i 0)) e
      → (o.status ≡ success → ⊥) → copy_walk from to (n - i) i status e ≡ o
  unfolding copy_walk
  walk_stop o h q w x = let z : n - i ≡ suc (n - (i + 1)) = omega arith in rw (z, q, ← w, ne_eqb o.status success x)

  -- a source that was copied
  pub walk_step : (o : Copied) → i < n → is_source from (get_or e.slots.keys i 0) ≡ true → o ≡ copy_entry i (key_in to (get_or e.slots.keys i 0)) e
      → o.status ≡ success → copy_walk from to (n - i) i status e ≡ copy_walk from to (n - (i + 1)) (i + 1) o.status o.entries
  unfolding copy_walk
  walk_step o h q w x = let z : n - i ≡ suc (n - (i + 1)) = omega arith in rw (z, q, ← w, eq-eqb o.status success x, add-one i, x)

-- ---- both

module _ (c : CopyRequest) (e : Entries) {o : Copied} where
  pub sources_group : {g h : GroupKey} → whole_group c.mode ≡ true → g ≡ source_group c → h ≡ target_group c
      → o ≡ copy_walk g h e.state.entries 0 not_found e → o ≡ copy_sources c e
  unfolding copy_sources
  sources_group q x y w = rw q (w ∙ (λ d. copy_walk (x d) (y d) e.state.entries 0 not_found e))

  pub sources_single : {g h : SceneKey} → whole_group c.mode ≡ false → g ≡ source_key c → h ≡ target_key c → o ≡ copy_single g h e → o ≡ copy_sources c e
  unfolding copy_sources
  sources_single q x y w = rw q (w ∙ (λ d. copy_single (x d) (y d) e))

-- o is what the sources' copies leave
module _ (c : CopyRequest) (t : Table) where
  pub inner_none : room_for t.state t.slots.keys c.fabric ≡ 0 → refused t insufficient_space ≡ copy_scenes_inner c t
  unfolding copy_scenes_inner
  inner_none h = rw (eq-eqb _ _ h)

  module _ (h : room_for t.state t.slots.keys c.fabric ≡ 0 → ⊥) {o : Copied} (w : o ≡ copy_sources c (record { state = t.state; slots = t.slots })) where
    pub inner_stopped : (o.status ≡ success → ⊥)
        → result_of o.status false (record { state = o.entries.state; slots = o.entries.slots; records = t.records }) ≡ copy_scenes_inner c t
    unfolding copy_scenes_inner copied
    inner_stopped z = rw (ne_eqb _ _ h, ← w, ne_eqb _ _ z)

    pub inner_done : {s : ScenesState} {r : List ℕ} → o.status ≡ success → current_of s r ≡ invalidate_current (target_scope c) (current_of o.entries.state t.records)
        → result_of success true (record { state = s; slots = o.entries.slots; records = r }) ≡ copy_scenes_inner c t
    unfolding copy_scenes_inner copied
    inner_done z q = rw (ne_eqb _ _ h, ← w, eq-eqb _ _ z) (λ d. result_of success true (record { state = (q d).state; slots = o.entries.slots; records = (q d).records }))
