-- What each change of the entries does to the view of them, that it leaves the rest alone, and that the table stays sound. Assumes nothing.
use Prim.Native.Nat.{ℕ, ◌+◌, ◌-◌, ◌≤◌, ◌<◌}
use mathlib.Core.Path.{◌≡◌, refl, sym, ap, ap₂, ◌∙◌, subst}
use mathlib.Core.Bool.{true, false, not}
use mathlib.Core.List.{List, [], ◌∷◌, ◌++◌, map}
use native.Mathlib.Omega.{arith}
use lib.Dec.{eqb}
use lib.ListN.{length, take, get_or, set, length-map, get_or-map}
use borrow.Author.Tests.{eqb-true, eqb-false}
use Rattle.words.specs.Below.{positions}
use Rattle.words.specs.Constants.{max_fields}
use Rattle.words.specs.Words.{word_of, within}
use Rattle.std.specs.Prelude.{Some, None}
use Rattle.words.specs.declared.KeyRange.{KeyRange}
use Rattle.words.specs.declared.SceneKey.{SceneKey}
use Rattle.slots.specs.Slots.{SceneEntry, entry_at, first_key, key_sound, put_slot, copy_slot, outside, gathered}
use Rattle.slots.proofs.Laws.{Bounds, outside_le, outside_under}
use Rattle.slots.proofs.View.{put-lengths, put_at_lem, put-size, put_other, copy-lengths, copy_at, copy-other, retained_lengths, retained_at, SameEntry, lengths_all}
use Rattle.state.specs.Table.{Table, entries_in, records_in, with_entries}
use Rattle.state.specs.Sound.{sound}
use Rattle.state.specs.Change.{find_scene, put_at, append, swap_remove, retain_outside}
use Rattle.state.proofs.Laws.{found_under}
use Rattle.observation.specs.Lists.{keep}
use Rattle.observation.specs.Equivalence.{key_is}
use Rattle.observation.proofs.Lists.{put, take_out}
use Rattle.observation.proofs.Lookups.{holds, entry_of}
use Rattle.observation.proofs.Counts.{keep-map}
use Rattle.observation.proofs.Firsts.{First, Nowhere, put_first, put_nowhere, take_out_first}
use Rattle.observation.proofs.Positions.{keep-positions, view_more, view_at, view_ext, view-same, view-take, view-set, view_first, view_nowhere}
use Rattle.observation.proofs.Sound.{to_each, Fine, fine_same, bounds, fine_at, sound-entries}
use Rattle.observation.proofs.Views.{entries-length}

-- u is t with other entries
pub record EntriesOnly (u t : Table) : Type 0 where
  pub size : u.state.size ≡ t.state.size
  pub modes : u.state.modes ≡ t.state.modes
  pub dataver : u.state.dataver ≡ t.state.dataver
  pub records : records_in u ≡ records_in t

-- an entry to stand past the end of a view
abbrev spare : Table → SceneEntry
spare t = entry_at t.slots 0

-- ---- where a key word stands

module _ (t : Table) (k : ℕ) where
  first_key_lem : (p : ℕ) → first_key t.slots.keys t.state.entries k ≡ Some p → First (spare t) (key_is k) (entries_in t) p
  unfolding entries_in first_key
  first_key_lem p e = view_first (spare t) (entry_at t.slots) (key_is k) t.state.entries p e

  no_key : first_key t.slots.keys t.state.entries k ≡ None → Nowhere (spare t) (key_is k) (entries_in t)
  unfolding entries_in first_key
  no_key e = view_nowhere (spare t) (entry_at t.slots) (key_is k) t.state.entries e

-- ---- a write

module _ (t : Table) (sd : sound t ≡ true) (key : SceneKey) (time : ℕ) (ext : List ℕ) (short : length ext ≤ max_fields) where
  -- the other entries stay
  put_rest : (at i : ℕ) → at < t.state.size → i < t.state.entries → (i ≡ at → ⊥) → SameEntry (put_slot at (word_of key) time ext t.slots) i t.slots i
  put_rest at i h l n =
      put_other (bounds t sd t.state.size (omega arith)) at (word_of key) time ext h short i n (fine_at t sd i l).size

  put_fine : key_sound (word_of key) ≡ true → (at i : ℕ) → at < t.state.size → ((i ≡ at → ⊥) → i < t.state.entries) → Fine (put_slot at (word_of key) time ext t.slots) i
  put_fine k at i h l =
      let b = bounds t sd t.state.size (omega arith) in
      (elim (eqb i at) as (λ c. eqb i at ≡ c → Fine (put_slot at (word_of key) time ext t.slots) i) [
        | true ↦ λ e.
            subst (Fine (put_slot at (word_of key) time ext t.slots)) (sym (eqb-true i at e)) (record {
              key = ap (λ (x : SceneEntry). key_sound x.key) (put_at_lem b at (word_of key) time ext h) ∙ k;
              size = omega (arith, put-size b at (word_of key) time ext h);
            })
        | false ↦ λ e. let n = eqb-false i at e in fine_same (put_rest at i h (l n) n) (fine_at t sd i (l n))
      ]) refl

  -- of a key that is there
  module _ (p : ℕ) (e : find_scene key t ≡ Some p) where
    known_under : p < t.state.entries
    known_under = found_under t.slots.keys t.state.entries (word_of key) p e

    known-room : p < t.state.size
    known-room = let s = to_each t sd in omega (arith, known_under)

    pub put-known : entries_in (with_entries (put_at p key time ext) t) ≡ put (key_is (word_of key)) (entry_of key time ext) (entries_in t)
    unfolding entries_in put_at
    put-known =
        view-set (spare t) (entry_at (put_slot p (word_of key) time ext t.slots)) (entry_at t.slots) t.state.entries p (entry_of key time ext) known_under
        (put_at_lem (bounds t sd t.state.size (omega arith)) p (word_of key) time ext known-room)
        (λ i l n. (put_rest p i known-room l n).entry)
        ∙ sym (put_first (spare t) (key_is (word_of key)) (entry_of key time ext) (entries_in t) p (first_key_lem t (word_of key) p e))

    pub put-known-sound : key_sound (word_of key) ≡ true → sound (with_entries (put_at p key time ext) t) ≡ true
    unfolding put_at
    put-known-sound k =
        let s = to_each t sd in
        sound-entries t sd t.state.entries (put_slot p (word_of key) time ext t.slots) s.entries
        (put-lengths (bounds t sd t.state.size (omega arith)) p (word_of key) time ext known-room short)
        (λ i l. put_fine k p i known-room (λ _. l))

  -- of a new key
  module _ (h : t.state.entries < t.state.size) where
    pub put-new : find_scene key t ≡ None → entries_in (with_entries (append key time ext) t) ≡ put (key_is (word_of key)) (entry_of key time ext) (entries_in t)
    unfolding entries_in append
    put-new e =
        let n = t.state.entries in
        let u = put_slot n (word_of key) time ext t.slots in
        view_more (entry_at u) n
        ∙ ap₂ (λ (l : List SceneEntry) (x : SceneEntry). l ++ (x ∷ []))
        (view-same (entry_at u) (entry_at t.slots) n (λ i l. (put_rest n i h l (λ q. omega arith)).entry))
        (put_at_lem (bounds t sd t.state.size (omega arith)) n (word_of key) time ext h)
        ∙ sym (put_nowhere (spare t) (key_is (word_of key)) (entry_of key time ext) (entries_in t) (no_key t (word_of key) e))

    pub put-new-sound : key_sound (word_of key) ≡ true → sound (with_entries (append key time ext) t) ≡ true
    unfolding append
    put-new-sound k =
        let n = t.state.entries in
        sound-entries t sd (n + 1) (put_slot n (word_of key) time ext t.slots) (omega arith)
        (put-lengths (bounds t sd t.state.size (omega arith)) n (word_of key) time ext h short)
        (λ i l. put_fine k n i h (λ q. omega arith))

-- ---- a removal

module _ (t : Table) (sd : sound t ≡ true) (p : ℕ) (h : p < t.state.entries) where
  last_under : t.state.entries - 1 < t.state.entries
  last_under = omega arith

  copy_bounds : Bounds t.slots t.state.entries
  copy_bounds = let s = to_each t sd in bounds t sd t.state.entries s.entries

  copy_last : SameEntry (copy_slot (t.state.entries - 1) p t.slots) p t.slots (t.state.entries - 1)
  copy_last = copy_at copy_bounds (t.state.entries - 1) p last_under h (fine_at t sd (t.state.entries - 1) last_under).size

  copy_rest : (i : ℕ) → i < t.state.entries → (i ≡ p → ⊥) → SameEntry (copy_slot (t.state.entries - 1) p t.slots) i t.slots i
  copy_rest i l n = copy-other copy_bounds (t.state.entries - 1) p last_under h i n (fine_at t sd i l).size

  copy_fine : (i : ℕ) → i < t.state.entries → Fine (copy_slot (t.state.entries - 1) p t.slots) i
  copy_fine i l =
      (elim (eqb i p) as (λ c. eqb i p ≡ c → Fine (copy_slot (t.state.entries - 1) p t.slots) i) [
        | true ↦ λ e. subst (Fine (copy_slot (t.state.entries - 1) p t.slots)) (sym (eqb-true i p e)) (fine_same copy_last (fine_at t sd (t.state.entries - 1) last_under))
        | false ↦ λ e. fine_same (copy_rest i l (eqb-false i p e)) (fine_at t sd i l)
      ]) refl

  -- the positions below the old count
  copied-view : map (entry_at (copy_slot (t.state.entries - 1) p t.slots)) (positions t.state.entries) ≡ set (entries_in t) p (get_or (entries_in t) (t.state.entries - 1) (spare t))
  unfolding entries_in
  copied-view =
      view-set (spare t) (entry_at (copy_slot (t.state.entries - 1) p t.slots)) (entry_at t.slots) t.state.entries p (get_or (map (entry_at t.slots) (positions t.state.entries)) (t.state.entries - 1) (spare t)) h
      (copy_last.entry ∙ sym (view_at (entry_at t.slots) (spare t) t.state.entries (t.state.entries - 1) last_under))
      (λ i l n. (copy_rest i l n).entry)

module _ (t : Table) (sd : sound t ≡ true) (k p : ℕ) (e : first_key t.slots.keys t.state.entries k ≡ Some p) where
  gone_under : p < t.state.entries
  gone_under = found_under t.slots.keys t.state.entries k p e

  pub removed : entries_in (with_entries (swap_remove p) t) ≡ take_out (key_is k) (entries_in t)
  unfolding swap_remove entries_in
  removed =
      let n = t.state.entries in
      let h = gone_under in
      view-take (spare t) (entry_at (copy_slot (n - 1) p t.slots)) n (n - 1) (omega arith)
      ∙ ap (take (n - 1)) (copied-view t sd p h)
      ∙ sym (take_out_first (spare t) (key_is k) (entries_in t) p (n - 1) (entries-length t ∙ omega arith) (first_key_lem t k p e))

  pub removed-sound : sound (with_entries (swap_remove p) t) ≡ true
  unfolding swap_remove
  removed-sound =
      let s = to_each t sd in
      let n = t.state.entries in
      let h = gone_under in
      sound-entries t sd (n - 1) (copy_slot (n - 1) p t.slots) (omega arith)
      (copy-lengths (copy_bounds t sd p h) (n - 1) p (last_under t sd p h) h) (λ i l. copy_fine t sd p h i (omega arith))

-- ---- those outside a range stay

-- the positions that stay
abbrev left : Table → KeyRange → List ℕ
left t r = outside t.slots.keys t.state.entries r

module _ (t : Table) (sd : sound t ≡ true) (r : KeyRange) where
  left-same : (i : ℕ) → i < length (left t r) → SameEntry (gathered (left t r) t.slots) i t.slots (get_or (left t r) i 0)
  left-same i h =
      let s = to_each t sd in
      retained_at (bounds t sd t.state.entries s.entries) r (lengths_all t.slots.fields t.state.entries s.length_at_lem) i h

  left-view : map (entry_at t.slots) (left t r) ≡ keep (λ x. not (holds r x)) (entries_in t)
  unfolding entries_in outside
  left-view =
      ap (map (entry_at t.slots)) (keep-positions (λ i. not (within r (get_or t.slots.keys i 0))) t.state.entries)
      ∙ sym (keep-map (λ x. not (holds r x)) (entry_at t.slots) (positions t.state.entries))

  pub retained : entries_in (with_entries (retain_outside r) t) ≡ keep (λ x. not (holds r x)) (entries_in t)
  unfolding retain_outside entries_in
  retained =
      view_ext (spare t) (entry_at (gathered (left t r) t.slots)) (length (left t r)) (map (entry_at t.slots) (left t r)) (length-map (left t r) (entry_at t.slots))
      (λ i h. (left-same i h).entry ∙ sym (get_or-map (entry_at t.slots) (left t r) i 0))
      ∙ left-view

  pub retained_count : (with_entries (retain_outside r) t).state.entries ≡ length (keep (λ x. not (holds r x)) (entries_in t))
  retained_count = sym (entries-length (with_entries (retain_outside r) t)) ∙ ap length retained

  pub retained_sound : sound (with_entries (retain_outside r) t) ≡ true
  unfolding retain_outside
  retained_sound =
      let s = to_each t sd in
      let b = bounds t sd t.state.entries s.entries in
      sound-entries t sd (length (left t r)) (gathered (left t r) t.slots) (omega (arith, outside_le t.slots.keys r t.state.entries))
      (retained_lengths b r)
      (λ i h. fine_same (left-same i h) (fine_at t sd (get_or (left t r) i 0) (outside_under t.slots.keys r t.state.entries i h)))

-- ---- what stays as it is

module _ (t : Table) where
  pub put_only : (p : ℕ) (key : SceneKey) (time : ℕ) (ext : List ℕ) → EntriesOnly (with_entries (put_at p key time ext) t) t
  unfolding put_at records_in
  put_only p key time ext = record { size = refl; modes = refl; dataver = refl; records = refl }

  pub append-only : (key : SceneKey) (time : ℕ) (ext : List ℕ) → EntriesOnly (with_entries (append key time ext) t) t
  unfolding append records_in
  append-only key time ext = record { size = refl; modes = refl; dataver = refl; records = refl }

  pub removed-only : (p : ℕ) → EntriesOnly (with_entries (swap_remove p) t) t
  unfolding swap_remove records_in
  removed-only p = record { size = refl; modes = refl; dataver = refl; records = refl }

  pub retained_only : (r : KeyRange) → EntriesOnly (with_entries (retain_outside r) t) t
  unfolding retain_outside records_in
  retained_only r = record { size = refl; modes = refl; dataver = refl; records = refl }
