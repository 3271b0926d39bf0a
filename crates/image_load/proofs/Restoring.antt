-- What a load leaves: the entries and the records of the image, in a sound table. Assumes nothing.
use Prim.Native.Nat.{ℕ, zero, suc, ◌+◌, ◌≤◌, ◌<◌}
use mathlib.Core.Path.{◌≡◌, refl, sym, ap, ap₂, subst, ◌∙◌}
use mathlib.Core.Bool.{Bool, true, false, ◌&&◌}
use mathlib.Core.List.{List, [], ◌∷◌, ◌++◌, map, map-append, append-nil, append_assoc}
use native.Mathlib.Numerals.{add-one}
use native.Mathlib.Omega.{arith}
use lib.Dec.{eqb, leb}
use lib.ListN.{length, drop, get_or-append}
use lib.Seq.{take-append_seam}
use borrow.Author.Tests.{eqb-true, eqb-false, leb-true, le-leb}
use Rattle.std.proofs.Common.{Some}
use Rattle.words.specs.Constants.{max_fields}
use Rattle.words.specs.Below.{positions, every_below}
use Rattle.words.proofs.Tests.{and_left, and_right, all_none, all_more}
use Rattle.slots.specs.Slots.{Slots, SceneEntry, entry_at, length_at, key_sound, keys_sound, put_slot, laid}
use Rattle.slots.proofs.Laws.{Bounds, laid-length}
use Rattle.slots.proofs.View.{SameLengths, SameEntry, put-lengths, put_at_lem, put_other, put-size, lengths_all}
use Rattle.records.specs.Records.{record_sound, records_sound}
use Rattle.records.proofs.View.{sound_at, sound_all}
use Rattle.state.specs.declared.ScenesState.{ScenesState}
use Rattle.state.specs.Table.{Table, entries_in, records_in}
use Rattle.state.specs.Sound.{in_bounds, sound}
use Rattle.state.proofs.Laws.{InBounds, sound_bounds}
use Rattle.image_reader.specs.Image.{Image}
use Rattle.image_load.specs.Loading.{put_entries, restored}

-- ---- lists

-- a test of each element
unfoldable pub each : {A : Type 0} → (A → Bool) → List A → Bool
each p [] = true
each p (x ∷ xs) = p x && each p xs

each_behind : {A : Type 0} (p : A → Bool) (xs : List A) (x : A) → each p (xs ++ (x ∷ [])) ≡ true → (each p xs ≡ true) × (p x ≡ true)
unfolding each
each_behind p [] x e = (refl, and_left (p x) true e)
each_behind p (y ∷ xs) x e =
    let r = each_behind p xs x (and_right (p y) (each p (xs ++ (x ∷ []))) e) in
    (ap₂ ◌&&◌ (and_left (p y) (each p (xs ++ (x ∷ []))) e) r.0, r.1)

module _ {A : Type 0} (f : ℕ → A) where
  view_more : (n : ℕ) → map f (positions (suc n)) ≡ map f (positions n) ++ (f n ∷ [])
  unfolding positions
  view_more n = map-append f (positions n) (n ∷ [])

  view-same : (g : ℕ → A) (n : ℕ) → ((i : ℕ) → i < n → f i ≡ g i) → map f (positions n) ≡ map g (positions n)
  unfolding positions
  view-same g zero h = refl
  view-same g (suc n) h =
      map-append f (positions n) (n ∷ [])
      ∙ ap₂ (λ (xs : List A) (x : A). xs ++ (x ∷ [])) (view-same g n (λ i l. h i (omega arith))) (h n (omega arith))
      ∙ sym (map-append g (positions n) (n ∷ []))

  view_each : (p : A → Bool) (n : ℕ) → each p (map f (positions n)) ≡ true → every_below (λ i. p (f i)) n ≡ true
  unfolding every_below
  view_each p zero e = refl
  view_each p (suc n) e =
      let r = each_behind p (map f (positions n)) (f n) (ap (each p) (sym (view_more n)) ∙ e) in
      ap₂ ◌&&◌ (view_each p n r.0) r.1

-- ---- entries written one after the other

abbrev pub short : SceneEntry → Bool
short e = leb (length e.fields) max_fields

abbrev Short : Slots → ℕ → Type 0
Short s n = (i : ℕ) → i < n → length_at s.fields i ≤ max_fields

-- one entry behind those that stand
module _ (e : SceneEntry) (s : Slots) (n at : ℕ) (b : Bounds s n) (l : at < n) (u : length e.fields ≤ max_fields) (h : Short s at) where
  abbrev next : Slots
  next = put_slot at e.key e.time e.fields s

  next-lengths : SameLengths next s
  next-lengths = put-lengths b at e.key e.time e.fields l u

  next_bounds : Bounds next n
  next_bounds = let w = next-lengths in record { keys = omega arith; times = omega arith; fields = omega arith }

  next-other : (i : ℕ) → i < at → SameEntry next i s i
  next-other i m = put_other b at e.key e.time e.fields l u i (λ p. let v : ⊥ = omega arith in v) (h i m)

  next-short : Short next (at + 1)
  next-short i m =
      (elim (eqb i at) as (λ t. eqb i at ≡ t → length_at next.fields i ≤ max_fields) [
        | true ↦ λ t.
            subst (λ (k : ℕ). length_at next.fields k ≤ max_fields) (sym (eqb-true i at t)) (omega (arith, put-size b at e.key e.time e.fields l))
        | false ↦ λ t.
            let ne = eqb-false i at t in
            let k : i < at = omega arith in
            omega (arith, (next-other i k).size, h i k)
      ]) refl

  next-view : map (entry_at next) (positions (at + 1)) ≡ map (entry_at s) (positions at) ++ (e ∷ [])
  next-view =
      ap (λ (j : ℕ). map (entry_at next) (positions j)) (add-one at)
      ∙ view_more (entry_at next) at
      ∙ ap₂ (λ (xs : List SceneEntry) (x : SceneEntry). xs ++ (x ∷ [])) (view-same (entry_at next) (entry_at s) at (λ i m. (next-other i m).entry))
      (put_at_lem b at e.key e.time e.fields l)

record Filled (s : Slots) (at : ℕ) (es : List SceneEntry) (left : Slots) : Type 0 where
  entries : map (entry_at left) (positions (at + length es)) ≡ map (entry_at s) (positions at) ++ es
  lengths_short : Short left (at + length es)
  same-lengths : SameLengths left s

filled : (es : List SceneEntry) (s : Slots) (n at : ℕ) → Bounds s n → at + length es ≤ n → each short es ≡ true → Short s at
    → Filled s at es (put_entries at es s)
unfolding put_entries each
filled [] s n at b l e h =
    let z : at + 0 ≡ at = omega arith in
    record {
      entries = ap (λ (k : ℕ). map (entry_at s) (positions k)) z ∙ sym (append-nil (map (entry_at s) (positions at)));
      lengths_short = λ i m. h i (omega arith);
      same-lengths = record { keys = refl; times = refl; fields = refl };
    }
filled (e ∷ es) s n at b l q h =
    let m : at < n = omega arith in
    let u : length e.fields ≤ max_fields = leb-true (length e.fields) max_fields (and_left (short e) (each short es) q) in
    let w = next-lengths e s n at b m u h in
    let r = filled es (next e s n at b m u h) n (at + 1) (next_bounds e s n at b m u h) (omega arith) (and_right (short e) (each short es) q)
    (next-short e s n at b m u h) in
    let k : at + suc (length es) ≡ at + 1 + length es = omega arith in
    record {
      entries =
          ap (λ (j : ℕ). map (entry_at (put_entries at (e ∷ es) s)) (positions j)) k
          ∙ r.entries
          ∙ ap (λ (xs : List SceneEntry). xs ++ es) (next-view e s n at b m u h)
          ∙ append_assoc (map (entry_at s) (positions at)) (e ∷ []) es;
      lengths_short = λ i p. r.lengths_short i (omega arith);
      same-lengths = record {
        keys = r.same-lengths.keys ∙ w.keys;
        times = r.same-lengths.times ∙ w.times;
        fields = r.same-lengths.fields ∙ w.fields;
      };
    }

-- ---- the table that is left

bounds_hold : (s : ScenesState) (ks ts fs rs : ℕ) → InBounds s ks ts fs rs → in_bounds s ks ts fs rs ≡ true
unfolding in_bounds
bounds_hold s ks ts fs rs f =
    all_more _ _ (le-leb _ _ f.most)
    (all_more _ _ (le-leb _ _ f.entries)
    (all_more _ _ (le-leb _ _ f.recorded)
    (all_more _ _ (le-leb _ _ f.keys)
    (all_more _ _ (le-leb _ _ f.times)
    (all_more _ _ (le-leb _ _ f.fields)
    (all_more _ _ (le-leb _ _ f.records) all_none))))))

module _ (t : Table) (s : sound t ≡ true) (i : Image) (few : length i.entries ≤ t.state.size) (fit : each short i.entries ≡ true) where
  written : Filled t.slots 0 i.entries (put_entries 0 i.entries t.slots)
  written =
      let b = sound_bounds t s in
      filled i.entries t.slots t.state.size 0 (record { keys = b.keys; times = b.times; fields = b.fields }) (omega arith) fit
      (λ j m. let w : ⊥ = omega arith in absurd w)

  -- the entries of the image, in order
  pub restored-entries : entries_in (restored (Some i) t) ≡ i.entries
  unfolding entries_in restored positions
  restored-entries =
      let z : length i.entries ≡ 0 + length i.entries = omega arith in
      ap (λ (n : ℕ). map (entry_at (put_entries 0 i.entries t.slots)) (positions n)) z ∙ written.entries

  module _ (few-records : length i.records ≤ t.state.size) where
    -- and its record words
    pub restored-records : records_in (restored (Some i) t) ≡ i.records
    unfolding records_in restored laid
    restored-records = take-append_seam i.records _

    restored_bounds : (let r = restored (Some i) t in
        InBounds r.state (length r.slots.keys) (length r.slots.times) (length r.slots.fields) (length r.records))
    unfolding restored
    restored_bounds =
        let b = sound_bounds t s in
        let w = written.same-lengths in
        let l = laid-length i.records t.records (omega arith) in
        record {
          most = b.most;
          entries = few;
          recorded = few-records;
          keys = omega (arith, b.keys, w.keys);
          times = omega (arith, b.times, w.times);
          fields = omega (arith, b.fields, w.fields);
          records = omega (arith, b.records, l);
        }

    -- the table is sound if the image's words are
    pub restored-sound : each (λ (e : SceneEntry). key_sound e.key) i.entries ≡ true → records_sound i.records (length i.records) ≡ true
        → sound (restored (Some i) t) ≡ true
    unfolding sound restored keys_sound entries_in laid
    restored-sound keys words =
        all_more _ _ (bounds_hold _ _ _ _ _ restored_bounds)
        (all_more _ _
        (view_each (entry_at (put_entries 0 i.entries t.slots)) (λ (e : SceneEntry). key_sound e.key) (length i.entries)
        (ap (each (λ (e : SceneEntry). key_sound e.key)) restored-entries ∙ keys))
        (all_more _ _ (lengths_all (put_entries 0 i.entries t.slots).fields (length i.entries) (λ j m. written.lengths_short j (omega arith)))
        (all_more _ _ (sound_all (laid i.records t.records) (length i.records) (λ j m.
        ap record_sound (get_or-append i.records (drop (length i.records) t.records) 0 j m) ∙ sound_at i.records (length i.records) j words m))
        all_none)))
