-- What each change of the records does to the view of them, that it leaves the entries alone, and that the table stays sound. Assumes nothing.
use Prim.Native.Nat.{ℕ, ◌+◌, ◌%◌, ◌^◌, ◌≤◌, ◌<◌}
use mathlib.Core.Path.{◌≡◌, refl, sym, ap, ◌∙◌, subst}
use mathlib.Core.Bool.{Bool, true, false, cond, not, ◌&&◌, ◌||◌}
use mathlib.Core.List.{List, [], map}
use native.Mathlib.Omega.{arith}
use native.Mathlib.Nat.{not-suc-le-zero}
use lib.Dec.{eqb, ltb}
use lib.ListN.{length, take, get_or}
use lib.Seq.{length-take-le, get_or-take}
use borrow.Author.Tests.{ltb-true, ltb-false}
use Rattle.words.specs.Below.{positions}
use Rattle.words.specs.Words.{fabric_of, key_of_record, valid_record}
use Rattle.std.specs.Prelude.{Some, None, is_some}
use Rattle.words.specs.declared.SceneKey.{SceneKey}
use Rattle.records.specs.declared.Scope.{Scope}
use Rattle.records.specs.Records.{record_sound, first_owned, records_of, remember, hits, any_hit, cleared, invalidated, others_of, moved}
use Rattle.records.proofs.View.{sound-cleared, in_use, remember-length, remember-count, over_view, behind-view, dropped_view, length-invalidated, take-invalidated, length_moved, take-moved, others_le}
use Rattle.state.specs.Table.{Table, entries_in, records_in, with_current, with_entry_count, with_record_count, bump_if}
use Rattle.state.specs.Sound.{sound}
use Rattle.state.specs.Current.{remember_current, invalidate_current}
use Rattle.observation.specs.Lists.{bit, count, keep}
use Rattle.observation.proofs.Lists.{has, put}
use Rattle.observation.proofs.Lookups.{owned_by, with_record}
use Rattle.observation.proofs.Counts.{both, count_le, count_map, count-put, count-keep, keep-map}
use Rattle.observation.proofs.Firsts.{First, Nowhere, put_first, put_nowhere, count_nowhere, nowhere_count}
use Rattle.observation.proofs.Positions.{keep-positions, view_first, view_nowhere}
use Rattle.observation.proofs.Sound.{to_each, sound-entries, sound-records}
use Rattle.observation.proofs.Views.{records-list, records_has, records_hit}

-- u is t with other records, and perhaps a step of the data version
pub record CurrentOnly (u t : Table) : Type 0 where
  pub size : u.state.size ≡ t.state.size
  pub modes : u.state.modes ≡ t.state.modes
  pub count : u.state.entries ≡ t.state.entries
  pub slots : u.slots ≡ t.slots
  pub entries : entries_in u ≡ entries_in t

-- ---- soundness, by the view

-- a record word that is not sound
abbrev bad : ℕ → Bool
bad w = not (record_sound w)

of_not : (b : Bool) → not b ≡ false → b ≡ true
of_not true e = refl
of_not false e = sym e

not_back : (a b : Bool) → (b ≡ true → a ≡ true) → not a ≡ true → not b ≡ true
not_back a true f e = sym (ap not (f refl)) ∙ e
not_back a false f e = refl

module _ (t : Table) (sd : sound t ≡ true) where
  -- each record word of a sound table is sound
  pub records-sound : count (λ w. not (record_sound w)) (records_in t) ≡ 0
  unfolding records_in
  records-sound =
      let s = to_each t sd in
      let n = length-take-le t.state.recorded t.records (omega arith) in
      count_nowhere 0 bad (take t.state.recorded t.records) (λ i h.
      let k : i < t.state.recorded = omega arith in
      ap not (ap record_sound (get_or-take t.state.recorded t.records i 0 k) ∙ s.record_at_lem i k))

  sound-view : (b : Bool) (n : ℕ) (l : List ℕ) → n ≤ t.state.size → length l ≡ length t.records → count bad (take n l) ≡ 0
      → sound (record { state = bump_if b (with_record_count n t.state); slots = t.slots; records = l }) ≡ true
  sound-view b n l h e z =
      let s = to_each t sd in
      let m = length-take-le n l (omega arith) in
      sound-records t sd b n l h e (λ i k.
      of_not (record_sound (get_or l i 0)) (ap bad (sym (get_or-take n l i 0 k)) ∙ nowhere_count 0 bad (take n l) z i (omega arith)))

-- ---- invalidating

module _ (t : Table) (scope : Scope) where
  pub invalidated-records : records_in (with_current (invalidate_current scope) t) ≡ map (cleared scope) (records_in t)
  unfolding records_in invalidate_current
  invalidated-records = take-invalidated scope t.state.recorded t.records

  pub invalidated-only : CurrentOnly (with_current (invalidate_current scope) t) t
  unfolding entries_in invalidate_current
  invalidated-only = record { size = refl; modes = refl; count = refl; slots = refl; entries = refl }

  pub invalidated-dataver : sound t ≡ true
      → (with_current (invalidate_current scope) t).state.dataver ≡ cond (has (hits scope) (records_in t)) ((t.state.dataver + 1) % 2 ^ 32) t.state.dataver
  unfolding invalidate_current
  invalidated-dataver sd = ap (λ (b : Bool). cond b ((t.state.dataver + 1) % 2 ^ 32) t.state.dataver) (records_hit t sd scope)

  pub invalidated-sound : sound t ≡ true → sound (with_current (invalidate_current scope) t) ≡ true
  unfolding records_in invalidate_current
  invalidated-sound sd =
      let s = to_each t sd in
      sound-view t sd (any_hit scope t.records t.state.recorded) t.state.recorded (invalidated scope t.state.recorded t.records) s.recorded
      (length-invalidated scope t.state.recorded t.records)
      (omega (
        arith,
        ap (count bad) invalidated-records,
        count_map bad (cleared scope) (records_in t),
        count_le (λ w. bad (cleared scope w)) bad (λ w e. not_back (record_sound (cleared scope w)) (record_sound w) (sound-cleared scope w) e) (records_in t),
        records-sound t sd,
      ))

-- ---- remembering

module _ (t : Table) (sd : sound t ≡ true) (key : SceneKey) where
  -- where the fabric's record stands
  now_found : (p : ℕ) → first_owned t.records t.state.recorded key.fabric key.endpoint ≡ Some p → First 0 (owned_by key.fabric key.endpoint) (records_in t) p
  unfolding first_owned
  now_found p e =
      subst (λ (l : List ℕ). First 0 (owned_by key.fabric key.endpoint) l p) (records-list t sd)
      (view_first 0 (λ i. get_or t.records i 0) (owned_by key.fabric key.endpoint) t.state.recorded p e)

  not_found_lem : first_owned t.records t.state.recorded key.fabric key.endpoint ≡ None → Nowhere 0 (owned_by key.fabric key.endpoint) (records_in t)
  unfolding first_owned
  not_found_lem e =
      subst (Nowhere 0 (owned_by key.fabric key.endpoint)) (records-list t sd)
      (view_nowhere 0 (λ i. get_or t.records i 0) (owned_by key.fabric key.endpoint) t.state.recorded e)

  pub remembered_records : records_in (with_current (remember_current key) t) ≡ with_record key t
  unfolding records_in remember_current
  remembered_records =
      let s = to_each t sd in
      let size = t.state.size in
      let n = t.state.recorded in
      let l = t.records in
      let own = owned_by key.fabric key.endpoint in
      (elim (first_owned l n key.fabric key.endpoint) as (λ f. first_owned l n key.fabric key.endpoint ≡ f
      → in_use (remember key size (records_of n l)) ≡ cond (is_some f || ltb n size) (put own (valid_record key) (take n l)) (take n l)) [
        | Some p ↦ λ e. over_view key size n l p e ∙ sym (put_first 0 own (valid_record key) (take n l) p (now_found p e))
        | None ↦ λ e.
            (elim (ltb n size) as (λ b. ltb n size ≡ b → in_use (remember key size (records_of n l)) ≡ cond b (put own (valid_record key) (take n l)) (take n l)) [
              | true ↦ λ q. behind-view key size n l e (ltb-true n size q) s.records ∙ sym (put_nowhere 0 own (valid_record key) (take n l) (not_found_lem e))
              | false ↦ λ q. dropped_view key size n l e (ltb-false n size q)
            ]) refl
      ]) refl
      ∙ ap (λ (b : Bool). cond (b || ltb n size) (put own (valid_record key) (take n l)) (take n l)) (sym (records_has t sd key.fabric key.endpoint))

  room-left : (remember key t.state.size (records_of t.state.recorded t.records)).count ≤ t.state.size
  room-left = let s = to_each t sd in remember-count key t.state.size (records_of t.state.recorded t.records) s.recorded

  pub remembered_sound : record_sound (valid_record key) ≡ true → sound (with_current (remember_current key) t) ≡ true
  unfolding records_in remember_current
  remembered_sound k =
      let r = remember key t.state.size (records_of t.state.recorded t.records) in
      let own = owned_by key.fabric key.endpoint in
      let z : count bad (with_record key t) ≡ 0 =
      elim (has own (records_in t) || ltb t.state.recorded t.state.size) as (λ b. count bad (cond b (put own (valid_record key) (records_in t)) (records_in t)) ≡ 0) [
        | true ↦ omega (arith, count-put bad own (valid_record key) (records_in t), ap (λ (b : Bool). bit (not b)) k, records-sound t sd)
        | false ↦ records-sound t sd
      ] in
      sound-view t sd true r.count r.words room-left (remember-length key t.state.size (records_of t.state.recorded t.records))
      (ap (count bad) remembered_records ∙ z)

module _ (t : Table) (key : SceneKey) where
  pub remembered_only : CurrentOnly (with_current (remember_current key) t) t
  unfolding entries_in remember_current
  remembered_only = record { size = refl; modes = refl; count = refl; slots = refl; entries = refl }

  pub remembered_dataver : (with_current (remember_current key) t).state.dataver ≡ (t.state.dataver + 1) % 2 ^ 32
  unfolding remember_current
  remembered_dataver = refl

-- ---- dropping a fabric's records

-- where the other fabrics' records stand
abbrev pub others : Table → ℕ → List ℕ
others t fabric = others_of t.records t.state.recorded fabric

module _ (t : Table) (sd : sound t ≡ true) (fabric : ℕ) where
  pub dropped_records : take (length (others t fabric)) (moved (others t fabric) t.records) ≡ keep (λ w. not (eqb (fabric_of (key_of_record w)) fabric)) (records_in t)
  unfolding others_of
  dropped_records =
      let at : ℕ → ℕ = λ i. get_or t.records i 0 in
      let other : ℕ → Bool = λ w. not (eqb (fabric_of (key_of_record w)) fabric) in
      take-moved (others t fabric) t.records
      ∙ ap (map at) (keep-positions (λ i. other (at i)) t.state.recorded)
      ∙ sym (keep-map other at (positions t.state.recorded))
      ∙ ap (keep other) (records-list t sd)

  pub dropped_sound : (b : Bool) → sound (record { state = bump_if b (with_record_count (length (others t fabric)) t.state); slots = t.slots; records = moved (others t fabric) t.records }) ≡ true
  dropped_sound b =
      let s = to_each t sd in
      let other : ℕ → Bool = λ w. not (eqb (fabric_of (key_of_record w)) fabric) in
      let l = others_le t.records t.state.recorded fabric in
      sound-view t sd b (length (others t fabric)) (moved (others t fabric) t.records) (omega arith) (length_moved (others t fabric) t.records (omega arith))
      (omega (
        arith,
        ap (count bad) dropped_records,
        count-keep bad other (records_in t),
        count_le (λ w. other w && bad w) bad (λ w e. (both (other w) (bad w) e).1) (records_in t),
        records-sound t sd,
      ))

-- ---- nothing counts any more

-- the table with no entries and no records, and the same memory
abbrev pub emptied : Bool → Table → Table
emptied b t = record { state = bump_if b (with_record_count 0 (with_entry_count 0 t.state)); slots = t.slots; records = t.records }

module _ (t : Table) where
  pub emptied-entries : (b : Bool) → entries_in (emptied b t) ≡ []
  unfolding entries_in positions
  emptied-entries b = refl

  pub emptied-records : (b : Bool) → records_in (emptied b t) ≡ []
  unfolding records_in
  emptied-records b = refl

  pub emptied-sound : sound t ≡ true → (b : Bool) → sound (emptied b t) ≡ true
  emptied-sound sd b =
      let e = sound-entries t sd 0 t.slots (omega arith) (record { keys = refl; times = refl; fields = refl }) (λ i h. absurd (not-suc-le-zero h)) in
      sound-records (record { state = with_entry_count 0 t.state; slots = t.slots; records = t.records }) e b 0 t.records (omega arith) refl (λ i h. absurd (not-suc-le-zero h))
