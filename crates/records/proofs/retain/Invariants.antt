-- `records::retain` meets its contract: the records kept of the first i stand in front, and the rest is as it came. Assumes nothing.
use Prim.Native.Nat.{ℕ, ◌≤◌}
use mathlib.Core.Path.{◌≡◌, ap, ◌∙◌}
use mathlib.Core.List.{List}
use native.Mathlib.Omega.{arith}
use lib.ListN.{length, get_or}
use Rattle.records.specs.Records.{others_of, moved}
use Rattle.records.proofs.Laws.{moved-past}
use Rattle.records.proofs.retain.Given as goal

pub record Turn (l : List ℕ) (fabric : ℕ) (records : List ℕ) (i j : ℕ) : Type 0 where
  pub behind : j ≤ i
  pub counted : j ≡ length (others_of l i fabric)
  pub kept : records ≡ moved (others_of l i fabric) l

-- the word at the loop's index is the one that came in
pub here : (l : List ℕ) (fabric : ℕ) (records : List ℕ) (i j : ℕ) → Turn l fabric records i j → get_or records i 0 ≡ get_or l i 0
here l fabric records i j t =
    let h : length (others_of l i fabric) ≤ i = omega arith in
    ap (λ (r : List ℕ). get_or r i 0) t.kept ∙ moved-past (others_of l i fabric) l i h

abbrev pub invariant-loop-i : goal.invariant-loop-i
invariant-loop-i l = Turn l.fn.records l.fabric l.records l.i l.j
