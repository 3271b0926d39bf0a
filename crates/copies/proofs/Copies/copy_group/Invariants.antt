-- `Copies::copy_group` meets its contract: what is left of the walk at turn i answers as the whole walk, and there is room for
-- the next copy. Assumes nothing.
use Prim.Native.Nat.{ℕ, ◌+◌, ◌-◌, ◌≤◌, ◌<◌}
use mathlib.Core.Path.{◌≡◌, sym, ap, ◌∙◌, subst⁻¹}
use mathlib.Core.Bool.{true, false}
use native.Mathlib.Omega.{arith}
use lib.ListN.{get_or}
use Rattle.words.specs.Constants.{success}
use Rattle.words.specs.Words.{within, group_keys, scene_of}
use Rattle.words.specs.declared.GroupKey.{GroupKey}
use Rattle.words.specs.declared.KeyRange.{KeyRange}
use Rattle.words.specs.Refusals.{status_of}
use Rattle.state.specs.Table.{Entries, entries_of, EntryRoom}
use Rattle.copies.specs.Copy.{Copied, copy_entry, key_in, copy_walk}
use Rattle.copies.proofs.Laws.{Kept, copy-kept, walk_skip, walk_stop, walk_step}
use Rattle.copies.proofs.Copies.copy_group.Given as goal

abbrev pub keys_of : GroupKey → KeyRange
keys_of g = group_keys g.fabric g.endpoint g.group

-- the source's scene in the target group
pub named : (to : GroupKey) (i word : ℕ) (e : Entries) {scene : ℕ} → scene ≡ scene_of word
    → copy_entry i (record { fabric = to.fabric; endpoint = to.endpoint; group = to.group; scene = scene }) e ≡ copy_entry i (key_in to word) e
named to i word e q = rw q

-- e₀, s₀ and e, s are the entries and the status at the start and at turn i
pub record Turn (to : GroupKey) (n : ℕ) (r : KeyRange) (e₀ : Entries) (s₀ : ℕ) (e : Entries) (s i : ℕ) : Type 0 where
  pub room : EntryRoom e
  pub entries : n ≤ e.state.entries
  pub walk : (from : GroupKey) → r ≡ keys_of from → copy_walk from to (n - i) i s e ≡ copy_walk from to n 0 s₀ e₀

module _ {to : GroupKey} {n : ℕ} {r : KeyRange} {e₀ : Entries} {s₀ : ℕ} {e : Entries} {s i : ℕ} (t : Turn to n r e₀ s₀ e s i) (h : i < n) where
  pub skip : within r (get_or e.slots.keys i 0) ≡ false → Turn to n r e₀ s₀ e s (i + 1)
  skip q = record {
    room = t.room;
    entries = t.entries;
    walk = λ from x. sym (walk_skip from to n i s e h (ap (λ (k : KeyRange). within k (get_or e.slots.keys i 0)) (sym x) ∙ q)) ∙ t.walk from x;
  }

  -- the entry at i is a source, and o what its copy makes
  module _ (q : within r (get_or e.slots.keys i 0) ≡ true) {o : Copied} (w : o ≡ copy_entry i (key_in to (get_or e.slots.keys i 0)) e) where
    pub kept : Kept e o.entries
    kept = subst⁻¹ (λ (u : Copied). Kept e u.entries) w (copy-kept i (key_in to (get_or e.slots.keys i 0)) e t.room (omega arith))

    pub step : o.status ≡ success → Turn to n r e₀ s₀ o.entries o.status (i + 1)
    step z = record {
      room = kept.room;
      entries = omega (arith, kept.entries);
      walk = λ from x.
          sym (walk_step from to n i s e o h (ap (λ (k : KeyRange). within k (get_or e.slots.keys i 0)) (sym x) ∙ q) w z) ∙ t.walk from x;
    }

    pub stop : (o.status ≡ success → ⊥) → (from : GroupKey) → r ≡ keys_of from → o ≡ copy_walk from to n 0 s₀ e₀
    stop z from x =
        sym (walk_stop from to n i s e o h (ap (λ (k : KeyRange). within k (get_or e.slots.keys i 0)) (sym x) ∙ q) w z) ∙ t.walk from x

abbrev pub invariant-loop-i : goal.invariant-loop-i
invariant-loop-i l =
    Turn l.to l.n l.range (entries_of l.initial.state l.initial.keys l.initial.times l.initial.fields) (status_of l.initial.answer)
    (entries_of l.state l.keys l.times l.fields) (status_of l.answer) l.i
