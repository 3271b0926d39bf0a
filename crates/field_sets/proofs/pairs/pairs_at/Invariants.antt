-- `field_sets::pairs::pairs_at` meets its contract. Assumes nothing.
use Prim.Native.Nat.{◌-◌, ◌≤◌}
use mathlib.Core.Path.{◌≡◌}
use lib.ListN.{length}
use Rattle.field_sets.specs.Pairs.{pairs_at}
use Rattle.field_sets.proofs.PairLaws.{arrayed_from}
use Rattle.field_sets.proofs.pairs.pairs_at.Given as goal

-- there are no more pairs than bytes in front
abbrev pub invariant-loop-h : goal.invariant-loop-h
invariant-loop-h l = (l.count ≤ l.i) × (arrayed_from l.bytes l.first l.count l.i ≡ pairs_at l.bytes l.first)

abbrev pub decreases-loop-h : goal.decreases-loop-h
decreases-loop-h l = length l.bytes - l.i
