-- `field_sets::pairs::pair_from` meets its contract. Assumes nothing.
use Prim.Native.Nat.{◌-◌}
use mathlib.Core.Path.{◌≡◌}
use lib.ListN.{length}
use Rattle.field_sets.specs.Pairs.{pair_from}
use Rattle.field_sets.proofs.PairLaws.{paired_from}
use Rattle.field_sets.proofs.pairs.pair_from.Given as goal

abbrev pub invariant-loop-h : goal.invariant-loop-h
invariant-loop-h l = paired_from l.bytes l.so l.i ≡ pair_from l.bytes l.at

abbrev pub decreases-loop-h : goal.decreases-loop-h
decreases-loop-h l = length l.bytes - l.i
