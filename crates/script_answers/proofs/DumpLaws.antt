-- The laws of a table's lines: which entries have fields to show. Assumes nothing.
use Prim.Native.Nat.{ℕ, ◌≤◌}
use mathlib.Core.Path.{◌≡◌, refl}
use mathlib.Core.Bool.{true, false, cond, ◌&&◌}
use mathlib.Core.List.{[]}
use native.Mathlib.Omega.{arith}
use lib.Dec.{ltb}
use lib.ListN.{get_or}
use borrow.Author.Tests.{le-ltb}
use Rattle.words.specs.Constants.{max_scenes}
use Rattle.slots.specs.Slots.{fields_at}
use Rattle.state.specs.Table.{Table}
use Rattle.state.specs.Sound.{sound}
use Rattle.reads.specs.Reads.{field_bytes}
use Rattle.state.proofs.Laws.{sound_bounds}
use Rattle.script_answers.specs.Dump.{entry_texts, entry_line, stored_in, shown_bytes, entry_shown}

-- no table has more entries than it may
pub stored_most : (t : Table) → stored_in t ≤ max_scenes
stored_most t =
    (elim (sound t) as (λ b. sound t ≡ b → cond b t.state.entries 0 ≤ max_scenes) [
      | true ↦ λ e. let h = sound_bounds t e in omega (arith, h.most, h.entries)
      | false ↦ λ e. omega arith
    ]) refl

-- the fields are shown of the same entries
shown_same : (t : Table) (i : ℕ) → shown_bytes (stored_in t) t.slots.fields i ≡ field_bytes i t
unfolding field_bytes
shown_same t i =
    elim (sound t) as (λ b. cond (ltb i (cond b t.state.entries 0)) (fields_at t.slots.fields i) [] ≡ cond (b && ltb i t.state.entries)
    (fields_at t.slots.fields i) []) [
      | true ↦ refl
      | false ↦ rw (le-ltb i 0 (omega arith))
    ]

pub shown_lines : (t : Table) → entry_shown (stored_in t) t.slots.keys t.slots.times t.slots.fields ≡ entry_line t
shown_lines t = λ k i. entry_texts (get_or t.slots.keys i 0) (get_or t.slots.times i 0) (shown_same t i k)
