-- What a sound table has, by name, and that a change which keeps the sizes and leaves sound words leaves a sound table. Assumes nothing.
use Prim.Native.Nat.{ℕ, ◌*◌, ◌^◌, ◌≤◌, ◌<◌}
use mathlib.Core.Path.{◌≡◌, ap, ◌∙◌}
use mathlib.Core.Bool.{Bool, true}
use mathlib.Core.List.{List}
use native.Mathlib.Omega.{arith}
use lib.ListN.{length, get_or}
use borrow.Author.Tests.{lt-ltb, le-leb}
use Rattle.words.specs.Constants.{max_scenes, max_fields, stride}
use Rattle.words.specs.Words.{word_of, fabric_of}
use Rattle.words.specs.declared.SceneKey.{SceneKey}
use Rattle.words.proofs.Tests.{and_intro, all_head, all_tail, all_none, all_more}
use Rattle.slots.specs.Slots.{Slots, SceneEntry, key_sound, length_at}
use Rattle.slots.proofs.Laws.{Bounds}
use Rattle.slots.proofs.View.{keys_at, keys_all, lengths_at, lengths_all, SameLengths, SameEntry}
use Rattle.records.specs.Records.{record_sound}
use Rattle.records.proofs.View.{sound_at, sound_all}
use Rattle.state.specs.declared.ScenesState.{ScenesState}
use Rattle.state.specs.Table.{Table, with_entry_count, with_record_count, bump_if}
use Rattle.state.specs.Sound.{in_bounds, sound}
use Rattle.state.proofs.Laws.{InBounds, sound_bounds}

pub record Sound (t : Table) : Type 0 where
  pub most : t.state.size ≤ max_scenes
  pub entries : t.state.entries ≤ t.state.size
  pub recorded : t.state.recorded ≤ t.state.size
  pub keys : t.state.size ≤ length t.slots.keys
  pub times : t.state.size ≤ length t.slots.times
  pub fields : t.state.size * stride ≤ length t.slots.fields
  pub records : t.state.size ≤ length t.records
  pub key_at_lem : (i : ℕ) → i < t.state.entries → key_sound (get_or t.slots.keys i 0) ≡ true
  pub length_at_lem : (i : ℕ) → i < t.state.entries → length_at t.slots.fields i ≤ max_fields
  pub record_at_lem : (i : ℕ) → i < t.state.recorded → record_sound (get_or t.records i 0) ≡ true

pub to_each : (t : Table) → sound t ≡ true → Sound t
unfolding sound
to_each t e =
    let f = sound_bounds t e in
    let e1 = all_tail _ _ e in
    let e2 = all_tail _ _ e1 in
    let e3 = all_tail _ _ e2 in
    record {
      most = f.most;
      entries = f.entries;
      recorded = f.recorded;
      keys = f.keys;
      times = f.times;
      fields = f.fields;
      records = f.records;
      key_at_lem = λ i h. keys_at t.slots.keys t.state.entries i (all_head _ _ e1) h;
      length_at_lem = λ i h. lengths_at t.slots.fields t.state.entries i (all_head _ _ e2) h;
      record_at_lem = λ i h. sound_at t.records t.state.recorded i (all_head _ _ e3) h;
    }

of_bounds : (s : ScenesState) (ks ts fs rs : ℕ) → InBounds s ks ts fs rs → in_bounds s ks ts fs rs ≡ true
unfolding in_bounds
of_bounds s ks ts fs rs f =
    all_more _ _ (le-leb _ _ f.most)
    (all_more _ _ (le-leb _ _ f.entries)
    (all_more _ _ (le-leb _ _ f.recorded)
    (all_more _ _ (le-leb _ _ f.keys)
    (all_more _ _ (le-leb _ _ f.times)
    (all_more _ _ (le-leb _ _ f.fields)
    (all_more _ _ (le-leb _ _ f.records) all_none))))))

pub of_each : (t : Table) → Sound t → sound t ≡ true
unfolding sound
of_each t s =
    all_more _ _ (of_bounds t.state _ _ _ _ (record { most = s.most; entries = s.entries; recorded = s.recorded; keys = s.keys; times = s.times; fields = s.fields; records = s.records }))
    (all_more _ _ (keys_all t.slots.keys t.state.entries s.key_at_lem)
    (all_more _ _ (lengths_all t.slots.fields t.state.entries s.length_at_lem)
    (all_more _ _ (sound_all t.records t.state.recorded s.record_at_lem) all_none)))

-- the key word of a key whose parts have their widths
pub word_sound : (key : SceneKey) → 1 ≤ key.fabric → key.fabric < 2 ^ 8 → key.endpoint < 2 ^ 16 → key.group < 2 ^ 16 → key.scene < 2 ^ 8 → key_sound (word_of key) ≡ true
word_sound key f₁ f e g s =
    let w = word_of key in
    and_intro _ _ (lt-ltb w (2 ^ 48) (omega arith)) (le-leb 1 (fabric_of w) (omega arith))

-- ---- changes

-- the entry at a position has a sound key word and a sound length
pub record Fine (s : Slots) (i : ℕ) : Type 0 where
  pub key : key_sound (get_or s.keys i 0) ≡ true
  pub size : length_at s.fields i ≤ max_fields

pub fine_same : {s u : Slots} {i j : ℕ} → SameEntry s i u j → Fine u j → Fine s i
fine_same e f = record { key = ap (λ (x : SceneEntry). key_sound x.key) e.entry ∙ f.key; size = omega (arith, e.size, f.size) }

module _ (t : Table) (sd : sound t ≡ true) where
  pub bounds : (n : ℕ) → n ≤ t.state.size → Bounds t.slots n
  bounds n h = let s = to_each t sd in record { keys = omega arith; times = omega arith; fields = omega arith }

  pub fine_at : (i : ℕ) → i < t.state.entries → Fine t.slots i
  fine_at i h = let s = to_each t sd in record { key = s.key_at_lem i h; size = s.length_at_lem i h }

  -- other entries
  pub sound-entries : (n : ℕ) (u : Slots) → n ≤ t.state.size → SameLengths u t.slots → ((i : ℕ) → i < n → Fine u i)
      → sound (record { state = with_entry_count n t.state; slots = u; records = t.records }) ≡ true
  sound-entries n u h l f =
      let s = to_each t sd in
      of_each (record { state = with_entry_count n t.state; slots = u; records = t.records }) (record {
        most = s.most;
        entries = h;
        recorded = s.recorded;
        keys = omega (arith, l.keys);
        times = omega (arith, l.times);
        fields = omega (arith, l.fields);
        records = s.records;
        key_at_lem = λ i k. (f i k).key;
        length_at_lem = λ i k. (f i k).size;
        record_at_lem = s.record_at_lem;
      })

  -- other records, with a step of the data version or without
  pub sound-records : (b : Bool) (n : ℕ) (l : List ℕ) → n ≤ t.state.size → length l ≡ length t.records → ((i : ℕ) → i < n → record_sound (get_or l i 0) ≡ true)
      → sound (record { state = bump_if b (with_record_count n t.state); slots = t.slots; records = l }) ≡ true
  sound-records b n l h e f =
      let s = to_each t sd in
      of_each (record { state = bump_if b (with_record_count n t.state); slots = t.slots; records = l }) (record {
        most = s.most;
        entries = s.entries;
        recorded = h;
        keys = s.keys;
        times = s.times;
        fields = s.fields;
        records = omega arith;
        key_at_lem = s.key_at_lem;
        length_at_lem = s.length_at_lem;
        record_at_lem = f;
      })
