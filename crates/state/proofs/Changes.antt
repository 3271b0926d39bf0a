-- From what an operation answered and left to what a definition says of the table. Assumes nothing.
use Rattle.std.proofs.Common.{◌≡◌, ℕ, ◌≤◌, List, ap, ◌∙◌, arith}
use Rattle.words.specs.Words.{word_of}
use Rattle.std.specs.Prelude.{Option}
use Rattle.words.specs.declared.SceneKey.{SceneKey}
use Rattle.words.specs.declared.KeyRange.{KeyRange}
use Rattle.slots.specs.Slots.{first_key}
use Rattle.slots.proofs.Laws.{outside_le}
use Rattle.state.specs.declared.ScenesState.{ScenesState}
use Rattle.state.specs.Table.{Table, table_of, Entries, entries_of, Current, current_of, with_entries, with_current}
use Rattle.state.specs.Change.{find_scene, swap_remove, retain_outside}

-- ---- the scene that a command names: w is its key word, f what a search for it found

pub found-scene : (key : SceneKey) (t : Table) (w : ℕ) (f : Option ℕ)
    → w ≡ word_of key
    → f ≡ first_key t.slots.keys t.state.entries w
    → f ≡ find_scene key t
found-scene key t w f e q = q ∙ ap (first_key t.slots.keys t.state.entries) e

-- ---- changes of a table

-- of its records alone
pub changed_current : (t : Table) (G : Current → Current) (u : ScenesState) (r : List ℕ)
    → current_of u r ≡ G (current_of t.state t.records)
    → record { state = u; slots = t.slots; records = r } ≡ with_current G t
changed_current t G u r e = λ i. record { state = (e i).state; slots = t.slots; records = (e i).records }

module _ (t : Table) (F : Entries → Entries) (s : ScenesState) (k tm f : List ℕ)
    (e : entries_of s k tm f ≡ F (record { state = t.state; slots = t.slots })) where
  -- of its entries alone
  pub changed_entries : table_of s k tm f t.records ≡ with_entries F t
  changed_entries = λ i. record { state = (e i).state; slots = (e i).slots; records = t.records }

  -- of its entries, then of its records
  pub changed_both : (G : Current → Current) (u : ScenesState) (r : List ℕ)
      → current_of u r ≡ G (current_of s t.records)
      → table_of u k tm f r ≡ with_current G (with_entries F t)
  changed_both G u r q =
      changed_current (table_of s k tm f t.records) G u r q ∙ ap (with_current G) changed_entries

-- by a removal, and by a retain
module _ (t : Table) (s : ScenesState) (k tm f : List ℕ) where
  pub swapped_recorded : (p : ℕ) → entries_of s k tm f ≡ swap_remove p (record { state = t.state; slots = t.slots }) → s.recorded ≡ t.state.recorded
  unfolding swap_remove
  swapped_recorded p e = ap (λ (x : Entries). x.state.recorded) e

  module _ (r : KeyRange) (e : entries_of s k tm f ≡ retain_outside r (record { state = t.state; slots = t.slots })) where
    pub retained_recorded : s.recorded ≡ t.state.recorded
    unfolding retain_outside
    retained_recorded = ap (λ (x : Entries). x.state.recorded) e

    pub retained_entries : s.entries ≤ t.state.entries
    unfolding retain_outside
    retained_entries =
        let h = ap (λ (x : Entries). x.state.entries) e in
        omega (arith, outside_le t.slots.keys r t.state.entries)

    pub retained_table : table_of s k tm f t.records ≡ with_entries (retain_outside r) t
    retained_table = changed_entries t (retain_outside r) s k tm f e
