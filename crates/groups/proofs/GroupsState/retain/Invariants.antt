-- `GroupsState::retain` meets its contract: the words kept of the first i stand in front, and the rest is as it came. Assumes nothing.
use Prim.Native.Nat.{ℕ, ◌≤◌}
use mathlib.Core.Path.{◌≡◌, ap, ◌∙◌}
use mathlib.Core.List.{List}
use native.Mathlib.Omega.{arith}
use lib.ListN.{length, get_or}
use Rattle.words.specs.declared.KeyRange.{KeyRange}
use Rattle.slots.specs.Slots.{outside}
use Rattle.records.specs.Records.{moved}
use Rattle.records.proofs.Laws.{moved-past}
use Rattle.groups.proofs.GroupsState.retain.Given as goal

pub record Turn (l : List ℕ) (range : KeyRange) (words : List ℕ) (i j : ℕ) : Type 0 where
  pub behind : j ≤ i
  pub counted : j ≡ length (outside l i range)
  pub kept : words ≡ moved (outside l i range) l

-- the word at the loop's index is the one that came in
pub here : (l : List ℕ) (range : KeyRange) (words : List ℕ) (i j : ℕ) → Turn l range words i j → get_or words i 0 ≡ get_or l i 0
here l range words i j t =
    let h : length (outside l i range) ≤ i = omega arith in
    ap (λ (r : List ℕ). get_or r i 0) t.kept ∙ moved-past (outside l i range) l i h

abbrev pub invariant-loop-i : goal.invariant-loop-i
invariant-loop-i l = Turn l.fn.words l.range l.words l.i l.j
