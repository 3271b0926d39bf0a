-- What a notice and the lifecycle calls let be seen of a sound table. Assumes nothing.
use Prim.Native.Nat.{ℕ, ◌+◌}
use mathlib.Core.Path.{◌≡◌, refl, sym, ap, ap₂, ◌∙◌}
use mathlib.Core.Bool.{Bool, true, false, cond, not, ◌||◌}
use mathlib.Core.List.{[]}
use native.Mathlib.Omega.{arith}
use lib.Dec.{ltb}
use lib.ListN.{length}
use lib.Seq.{length-take-le}
use borrow.Author.Tests.{ltb-true, ltb-false, lt-ltb, le-ltb, ne_eqb}
use Rattle.words.specs.Constants.{success, no_fabric}
use Rattle.words.specs.Words.{fabric_keys}
use Rattle.words.proofs.Ranges.{fabric-keys}
use Rattle.slots.specs.Slots.{SceneEntry}
use Rattle.records.specs.declared.Scope.TheVariants.{Endpoint}
use Rattle.records.specs.Records.{moved}
use Rattle.records.proofs.View.{length_moved, others_le}
use Rattle.requests.specs.Requests.{fabric_gate}
use Rattle.state.specs.Table.{Table, entries_in, records_in, with_entries, with_record_count, bump_if}
use Rattle.state.specs.Sound.{sound}
use Rattle.state.specs.Change.{retain_outside}
use Rattle.state.specs.Answer.{refused}
use Rattle.lifecycle.specs.Lifecycle.{scenable_attribute_changed, removed_fabric, remove_for_fabric, factory_reset, startup, fail_safe}
use Rattle.observation.specs.Lists.{count, keep}
use Rattle.observation.specs.Calls.{notice, removal, reset, start, failSafeEvent, step, of_result}
use Rattle.observation.specs.Equivalence.{mine, of_fabric}
use Rattle.observation.proofs.Lists.{has}
use Rattle.observation.proofs.Lookups.{holds}
use Rattle.observation.proofs.Changes.{view_of, stepped, invalidated}
use Rattle.observation.proofs.Effects.{done, refuse}
use Rattle.observation.proofs.Counts.{count_ext}
use Rattle.observation.proofs.Losses.{keep_ext, lost, has_count}
use Rattle.observation.proofs.Sound.{to_each}
use Rattle.observation.proofs.Views.{entries-length, records-length}
use Rattle.observation.proofs.Entries.{retained, retained_count, retained_sound}
use Rattle.observation.proofs.Records.{others, dropped_records, dropped_sound, emptied, emptied-entries, emptied-records, emptied-sound}
use Rattle.observation.proofs.Acts.{Shows, itself, invalidates, Acts, results, acts_passed, acts_refused}

-- ---- the lifecycle's changes

module _ (t : Table) (sd : sound t ≡ true) where
  empties : (b : Bool) → Shows (emptied b t) (record { size = t.state.size; modes = t.state.modes; dataver = cond b (stepped t.state.dataver) t.state.dataver; entries = []; records = [] })
  unfolding view_of
  empties b = record {
    view = λ i. record { size = t.state.size; modes = t.state.modes; dataver = cond b (stepped t.state.dataver) t.state.dataver; entries = emptied-entries t b i; records = emptied-records t b i };
    stays = emptied-sound t sd b;
  }

-- something went from one of two lists
went_one : (m n k l a b : ℕ) → m + a ≡ k → n + b ≡ l → ltb (m + n) (k + l) ≡ (ltb 0 a || ltb 0 b)
went_one m n k l a b e₁ e₂ =
    (elim (ltb 0 a) as (λ x. ltb 0 a ≡ x → ltb (m + n) (k + l) ≡ (x || ltb 0 b)) [
      | true ↦ λ p. let h = ltb-true 0 a p in lt-ltb (m + n) (k + l) (omega arith)
      | false ↦ λ p.
          let h = ltb-false 0 a p in
          (elim (ltb 0 b) as (λ y. ltb 0 b ≡ y → ltb (m + n) (k + l) ≡ y) [
            | true ↦ λ q. let j = ltb-true 0 b q in lt-ltb (m + n) (k + l) (omega arith)
            | false ↦ λ q. let j = ltb-false 0 b q in le-ltb (m + n) (k + l) (omega arith)
          ]) refl
    ]) refl

module _ (t : Table) (sd : sound t ≡ true) (f : ℕ) where
  -- without the fabric's entries
  abbrev without : Table
  without = with_entries (retain_outside (fabric_keys f)) t

  is_mine : (x : SceneEntry) → holds (fabric_keys f) x ≡ mine f x
  is_mine x = fabric-keys f x.key

  others-length : length (others t f) ≡ length (keep (λ w. not (of_fabric f w)) (records_in t))
  others-length =
      let s = to_each t sd in
      let l = others_le t.records t.state.recorded f in
      sym (length-take-le (length (others t f)) (moved (others t f) t.records) (omega (arith, length_moved (others t f) t.records (omega arith))))
      ∙ ap length (dropped_records t sd f)

  abbrev gone : Bool
  gone = ltb (without.state.entries + length (others t f)) (t.state.entries + t.state.recorded)

  went : gone ≡ (has (mine f) (entries_in t) || has (of_fabric f) (records_in t))
  went =
      went_one without.state.entries (length (others t f)) t.state.entries t.state.recorded (count (mine f) (entries_in t)) (count (of_fabric f) (records_in t))
      (omega (arith, retained_count t sd (fabric_keys f), lost (holds (fabric_keys f)) (entries_in t), entries-length t, count_ext (holds (fabric_keys f)) (mine f) is_mine (entries_in t)))
      (omega (arith, others-length, lost (of_fabric f) (records_in t), records-length t sd))
      ∙ ap₂ ◌||◌ (sym (has_count (mine f) (entries_in t))) (sym (has_count (of_fabric f) (records_in t)))

  drops : (b : Bool) → Shows (record { state = bump_if b (with_record_count (length (others t f)) without.state); slots = without.slots; records = moved (others t f) t.records }) (record {
    size = t.state.size;
    modes = t.state.modes;
    dataver = cond b (stepped t.state.dataver) t.state.dataver;
    entries = keep (λ x. not (mine f x)) (entries_in t);
    records = keep (λ w. not (of_fabric f w)) (records_in t);
  })
  unfolding view_of retain_outside entries_in records_in
  drops b =
      let es = retained t sd (fabric_keys f) ∙ keep_ext (λ x. not (holds (fabric_keys f) x)) (λ x. not (mine f x)) (λ x. ap not (is_mine x)) (entries_in t) in
      let rs = dropped_records t sd f in
      record {
        view = λ i. record { size = t.state.size; modes = t.state.modes; dataver = cond b (stepped t.state.dataver) t.state.dataver; entries = es i; records = rs i };
        stays = dropped_sound without (retained_sound t sd (fabric_keys f)) f b;
      }

-- ---- the calls

module _ (t : Table) (sd : sound t ≡ true) where
  pub notice_acts : (e : ℕ) → Acts (step (notice e) t) (done false, invalidated (Endpoint e) (view_of t))
  unfolding step scenable_attribute_changed
  notice_acts e = acts_passed (refused t) t sd _ _ of_result _ refl (results success false _ _ (invalidates (Endpoint e) t (view_of t) (itself t sd)))

  pub removal-refused : Acts (step (removal 0) t) (refuse no_fabric, view_of t)
  unfolding step remove_for_fabric
  removal-refused = acts_refused (refused t) t sd _ _ of_result _ (λ z. omega arith) (results no_fabric false t (view_of t) (itself t sd))

  pub removal_acts : (f : ℕ) → (f ≡ 0 → ⊥)
      → Acts (step (removal f) t) (
        done (has (mine f) (view_of t).entries || has (of_fabric f) (view_of t).records),
        record {
          size = (view_of t).size;
          modes = (view_of t).modes;
          dataver = cond (has (mine f) (view_of t).entries || has (of_fabric f) (view_of t).records) (stepped (view_of t).dataver) (view_of t).dataver;
          entries = keep (λ x. not (mine f x)) (view_of t).entries;
          records = keep (λ w. not (of_fabric f w)) (view_of t).records;
        },
      )
  unfolding step remove_for_fabric removed_fabric view_of
  removal_acts f n =
      acts_passed (refused t) t sd (fabric_gate f) _ of_result _ (ap (λ (b : Bool). cond b no_fabric success) (ne_eqb f 0 n))
      (rw (← went t sd f) (results success (gone t sd f) _ _ (drops t sd f (gone t sd f))))

  pub reset_acts : Acts (step reset t) (done false, record { size = (view_of t).size; modes = (view_of t).modes; dataver = stepped (view_of t).dataver; entries = []; records = [] })
  unfolding step factory_reset view_of
  reset_acts = acts_passed (refused t) t sd _ _ of_result _ refl (results success false _ _ (empties t sd true))

  pub start_acts : Acts (step start t) (done false, record { size = (view_of t).size; modes = (view_of t).modes; dataver = (view_of t).dataver; entries = []; records = [] })
  unfolding step startup view_of
  start_acts = acts_passed (refused t) t sd _ _ of_result _ refl (results success false _ _ (empties t sd false))

  pub fail_safe_acts : Acts (step failSafeEvent t) (done false, view_of t)
  unfolding step fail_safe
  fail_safe_acts = acts_passed (refused t) t sd _ _ of_result _ refl (results success false t (view_of t) (itself t sd))
