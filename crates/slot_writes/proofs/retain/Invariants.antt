-- `slot_writes::retain` meets its contract: those kept of the first i entries stand in front, and the rest is as it came. Assumes nothing.
use Prim.Native.Nat.{ℕ, ◌+◌, ◌≤◌, ◌<◌}
use mathlib.Core.Path.{◌≡◌, sym, ap, ◌∙◌}
use mathlib.Core.Bool.{true, false}
use mathlib.Core.List.{List, [], ◌∷◌, ◌++◌}
use native.Mathlib.Omega.{arith}
use lib.ListN.{length, get_or, length-append}
use Rattle.words.specs.Words.{within}
use Rattle.words.specs.declared.KeyRange.{KeyRange}
use Rattle.slots.specs.Slots.{Slots, slots_of, outside, gathered, copy_slot}
use Rattle.slots.proofs.Laws.{Bounds, outside-keep, outside_skip, outside_le, outside_under, gathered_more, gathered-key}
use Rattle.slot_writes.proofs.retain.Given as goal

pub record Turn (s₀ : Slots) (n : ℕ) (r : KeyRange) (s : Slots) (i j : ℕ) : Type 0 where
  pub bounds : Bounds s₀ n
  pub counted : j ≡ length (outside s₀.keys i r)
  pub slots : s ≡ gathered (outside s₀.keys i r) s₀
  pub behind : j ≤ i

-- the last follows
pub turn : {s₀ : Slots} {n : ℕ} {r : KeyRange} {s : Slots} {i j : ℕ} → Bounds s₀ n → j ≡ length (outside s₀.keys i r) → s ≡ gathered (outside s₀.keys i r) s₀ → Turn s₀ n r s i j
turn {s₀} {n} {r} {s} {i} b k e =
    let m : length (outside s₀.keys i r) ≤ i = outside_le s₀.keys r i in
    record { bounds = b; counted = k; slots = e; behind = omega arith }

module _ {s₀ : Slots} {n : ℕ} {r : KeyRange} {s : Slots} {i j : ℕ} (t : Turn s₀ n r s i j) where
  -- the key word that is tested is the one that came in
  pub came : within r (get_or s₀.keys i 0) ≡ within r (get_or s.keys i 0)
  came =
      ap (within r) (sym (ap (λ (t : Slots). get_or t.keys i 0) t.slots ∙ gathered-key (outside s₀.keys i r) i s₀ (outside_le s₀.keys r i)))

  pub skip : within r (get_or s.keys i 0) ≡ true → Turn s₀ n r s (i + 1) j
  skip e =
      let q = outside_skip s₀.keys r i (came ∙ e) in
      turn t.bounds (t.counted ∙ ap length (sym q)) (t.slots ∙ ap (λ (ps : List ℕ). gathered ps s₀) (sym q))

  pub keep : {s' : Slots} → i < n → within r (get_or s.keys i 0) ≡ false → s' ≡ copy_slot i j s → Turn s₀ n r s' (i + 1) (j + 1)
  keep h e f =
      let ps = outside s₀.keys i r in
      let q : outside s₀.keys (i + 1) r ≡ ps ++ (i ∷ []) = outside-keep s₀.keys r i (came ∙ e) in
      turn t.bounds
      (ap (λ (k : ℕ). k + 1) t.counted ∙ sym (length-append ps (i ∷ [])) ∙ ap length (sym q))
      (f ∙ (λ d. copy_slot i (t.counted d) (t.slots d))
      ∙ gathered_more t.bounds ps i (outside_under s₀.keys r i) (outside_le s₀.keys r i) h
      ∙ ap (λ (qs : List ℕ). gathered qs s₀) (sym q))

abbrev pub invariant-loop-i : goal.invariant-loop-i
invariant-loop-i l = Turn (slots_of l.initial.keys l.initial.times l.initial.fields) l.n l.range (slots_of l.keys l.times l.fields) l.i l.j
