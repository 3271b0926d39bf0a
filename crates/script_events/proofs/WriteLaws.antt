-- The laws that take the steps of a raw write to the definition of its letter. Assumes nothing.
use Prim.Native.Nat.{ℕ, ◌+◌, ◌*◌, ◌≤◌, ◌<◌}
use mathlib.Core.Path.{◌≡◌, sym, ap, ◌∙◌}
use mathlib.Core.Bool.{Bool, true, false}
use mathlib.Core.List.{List}
use native.Mathlib.Omega.{arith}
use lib.Dec.{ltb}
use lib.ListN.{length}
use borrow.Author.Tests.{lt-ltb, ltb-true, leb-true}
use Rattle.words.specs.Constants.{success, unsound, max_fields, stride}
use Rattle.words.proofs.Tests.{all_head, all_tail}
use Rattle.words.specs.declared.SceneKey.{SceneKey}
use Rattle.state.specs.declared.ScenesState.{ScenesState}
use Rattle.state.specs.Table.{Table, with_entries, with_current}
use Rattle.state.specs.Change.{append}
use Rattle.script_lines.specs.Values.{byte, long, value_at, scene_key}
use Rattle.script_events.specs.Writes.{raw, record_word, append_record, push_record, push_entry, record_fits, entry_fits}

pub nonzero : (n : ℕ) → (n ≡ 0 → ⊥) → ltb 0 n ≡ true
nonzero n h = lt-ltb 0 n (omega arith)

module _ (values : List ℕ) (t : Table) where
  pub record_pushed : record_fits t.state (byte (value_at values 0)) (length t.records) ≡ true
      → raw success (with_current (append_record (record_word (scene_key values) (value_at values 4))) t) ≡ push_record values t
  unfolding push_record
  record_pushed e = rw e

  pub record_refused : record_fits t.state (byte (value_at values 0)) (length t.records) ≡ false → raw unsound t ≡ push_record values t
  unfolding push_record
  record_refused e = rw e

  module _ (ext : List ℕ) where
    pub entry_pushed :
        entry_fits t.state (byte (value_at values 0)) (length ext) (length t.slots.keys) (length t.slots.times) (length t.slots.fields) ≡ true
        → raw success (with_entries (append (scene_key values) (long (value_at values 4)) ext) t) ≡ push_entry values ext t
    unfolding push_entry
    entry_pushed e = rw e

    pub entry-refused :
        entry_fits t.state (byte (value_at values 0)) (length ext) (length t.slots.keys) (length t.slots.times) (length t.slots.fields) ≡ false
        → raw unsound t ≡ push_entry values ext t
    unfolding push_entry
    entry-refused e = rw e

module _ (s : ScenesState) (key : SceneKey) (values : List ℕ) (same : key ≡ scene_key values) where
  pub record_test : (records : ℕ) (b v : Bool) → b ≡ record_fits s key.fabric records → b ≡ v → record_fits s (byte (value_at values 0)) records ≡ v
  record_test records b v e h = ap (λ (k : SceneKey). record_fits s k.fabric records) (sym same) ∙ sym e ∙ h

  pub entry_test : (ext bytes : List ℕ) → ext ≡ bytes → (keys times fields : ℕ) (b v : Bool)
      → b ≡ entry_fits s key.fabric (length ext) keys times fields → b ≡ v
      → entry_fits s (byte (value_at values 0)) (length bytes) keys times fields ≡ v
  entry_test ext bytes p keys times fields b v e h = (λ i. entry_fits s (sym same i).fabric (length (sym p i)) keys times fields) ∙ sym e ∙ h

module _ (s : ScenesState) where
  pub record_room : (fabric records : ℕ) {b : Bool} → b ≡ record_fits s fabric records → b ≡ true → s.recorded < records
  unfolding record_fits
  record_room fabric records e h = ltb-true _ _ (all_head _ _ (all_tail _ _ (all_tail _ _ (sym e ∙ h))))

  -- what a write of one more entry asks for, in its order
  pub entry-room : (fabric ext keys times fields : ℕ) {b : Bool} → b ≡ entry_fits s fabric ext keys times fields → b ≡ true
      → (ext ≤ max_fields) × ((s.entries < keys) × ((s.entries < times) × (s.entries * stride + stride ≤ fields)))
  unfolding entry_fits
  entry-room fabric ext keys times fields e h =
      let a = all_tail _ _ (sym e ∙ h) in
      let k = all_tail _ _ (all_tail _ _ (all_tail _ _ a)) in
      let t = all_tail _ _ k in
      (leb-true _ _ (all_head _ _ a), (ltb-true _ _ (all_head _ _ k), (ltb-true _ _ (all_head _ _ t), leb-true _ _ (all_head _ _ (all_tail _ _ t)))))
